-- What a closed queue shows: the whole history, and what it leaves.
use Rattle.std.specs.Prelude.{◌≡◌, ℕ, List, length}
use Rattle.pq_words.specs.declared.entries.Entry.{Entry}
use Rattle.pq_model.specs.declared.marks.Mark.{Mark}
use Rattle.pq_model.specs.declared.passes.Known.{Known}
use Rattle.pq_model.specs.History.{IsLegal, left}
use Rattle.pq_model.specs.Passes.{IsActual}

-- the entries that are left, and how many calls were made
pub record Remains : Type 0 where
  pub left : List Entry
  pub length : ℕ

-- the calls that the pass keeps, put by place, are a legal history, which has this length and leaves these entries
pub record IsClosed (seats capacity : ℕ) (k : Known) (closed : Remains) : Type 0 where
  pub history : List Mark
  pub actual : IsActual k history
  pub legal : IsLegal seats capacity history
  pub long : length history ≡ closed.length
  pub rest : closed.left ≡ left history
