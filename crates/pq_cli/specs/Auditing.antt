-- The verdict on a history.
use Rattle.std.specs.Prelude.{ℕ, ◌≡◌, ◌≢◌, ◌⊎◌, List, length, Ok}
use Rattle.pq_model.specs.History.{IsLegal, left}
use Rattle.pq_model.specs.Verdicts.{IsFirstBad}
use Rattle.pq_tape.specs.HistoryText.{Recorded}
use Rattle.pq_tape.specs.HistoryReading.{history_of}
use Rattle.pq_cli.specs.declared.status.Status.{Status}
use Rattle.pq_cli.specs.declared.status.Status.TheVariants as statuses
use Rattle.pq_cli.specs.Texts.{legal_text, bad_text}

-- each mark is a step, and so many entries are left as are said to be
pub record IsTrue (h : Recorded) : Type 0 where
  pub legal : IsLegal h.head.seats h.head.capacity h.marks
  pub stated : h.left ≡ length (left h.marks)

-- The first place that is no step; where all are steps and the stated number is wrong, the number of marks.
abbrev pub IsBadAt : Recorded → ℕ → Type 0
IsBadAt h place = IsFirstBad h.head.seats h.head.capacity h.marks place
    ⊎ (IsLegal h.head.seats h.head.capacity h.marks × (h.left ≢ length (left h.marks)) × (place ≡ length h.marks))

-- The bytes read as a history that is true; the text says so, and how many entries are left.
pub record IsAuditedTrue (bytes text : List ℕ) : Type 0 where
  pub history : Recorded
  pub reads : history_of bytes ≡ Ok history
  pub is_true : IsTrue history
  pub written : text ≡ legal_text history.left

-- They read as a history that is bad; the text says where.
pub record IsAuditedBad (bytes text : List ℕ) : Type 0 where
  pub history : Recorded
  pub place : ℕ
  pub reads : history_of bytes ≡ Ok history
  pub bad : IsBadAt history place
  pub written : text ≡ bad_text place

abbrev pub IsAudited : List ℕ → Status → List ℕ → Type 0
IsAudited bytes statuses.Ok text = IsAuditedTrue bytes text
IsAudited bytes statuses.Illegal text = IsAuditedBad bytes text
IsAudited bytes _ text = ⊥
