-- How many entries were inserted.
use Rattle.std.specs.Prelude.{ℕ}
use Rattle.pq_model.specs.declared.marks.Act.{Act}
use Rattle.pq_model.specs.declared.marks.Act.TheVariants.{Insert}
use Rattle.pq_model.specs.declared.marks.Reply.{Reply}
use Rattle.pq_model.specs.declared.marks.Reply.TheVariants.{Done}
use Rattle.pq_model.specs.declared.passes.Call.{Call}
use Rattle.pq_model.specs.declared.passes.Lane.{Lane}
use Rattle.pq_model.specs.declared.passes.Known.{Known}
use Rattle.pq_model.specs.Passes.{lanes}
use Rattle.bb_problem.specs.Tree.{total}

-- 1 for an insert that was done
abbrev pub done : Act → Reply → ℕ
done (Insert e) Done = 1
done _ _ = 0

-- how many entries these calls inserted
abbrev pub inserts_of : Lane → ℕ
inserts_of l = total (λ (c : Call). done c.act c.reply) l.calls

-- how many entries the calls of all lanes inserted
abbrev pub all_inserts : Known → ℕ
all_inserts k = total inserts_of (lanes k)
