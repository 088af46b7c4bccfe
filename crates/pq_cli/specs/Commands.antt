-- What each command is to do.
use Rattle.std.specs.Prelude.{ℕ, ◌≡◌, List, Result, Ok, Err, Some, None}
use Rattle.pq_io.specs.declared.text.fault.BadInput.{BadInput}
use Rattle.pq_tape.specs.HistoryReading.{history_of}
use Rattle.inst_text.specs.Generator.{made_knapsack, made_shop}
use Rattle.inst_text.specs.Knapsack.{knapsack_of, knapsack_text}
use Rattle.inst_text.specs.Shop.{shop_text}
use Rattle.inst_text.specs.Script.{script_of}
use Rattle.bb_proof.specs.Texts.{proof_of}
use Rattle.bb_knap.specs.Branching as knapsacks
use Rattle.bb_problem.specs.Meaning.{Meaning}
use Rattle.bb_problem.specs.Tree.{needed}
use Rattle.cli_words.specs.declared.command.Branching.TheVariants.{Dispatch}
use Rattle.cli_words.specs.declared.command.Kind.{Kind}
use Rattle.cli_words.specs.declared.command.Kind.TheVariants.{Knapsack, Shop}
use Rattle.cli_words.specs.declared.command.Command.{Command}
use Rattle.cli_words.specs.declared.command.Command.TheVariants as commands
use Rattle.pq_cli.specs.declared.commands.task.Task.{Task}
use Rattle.pq_cli.specs.declared.commands.task.Task.TheVariants.{Solve, Bound, Check}
use Rattle.cli_words.specs.declared.limits.Limits.{Limits}
use Rattle.pq_cli.specs.declared.status.Status.TheVariants as statuses
use Rattle.pq_cli.specs.Auditing.{IsAudited}
use Rattle.cli_words.specs.Limits.{limits_of}
use Rattle.pq_cli.specs.Drilling.{drill_text}
use Rattle.pq_cli.specs.Tracing.{IsTraced, lanes_on}
use Rattle.pq_cli.specs.Proving.{IsProved, IsProofTooLong, IsVerified}
use Rattle.pq_cli.specs.Using.{Texts, IsSolved, IsRootBound, IsChecked}
use Rattle.pq_cli.specs.Problems.{Used, used}
use Rattle.pq_cli.specs.Work.{Work, fault_in}
use Rattle.pq_cli.specs.Duties.{Duty, Reads, Writes}

-- how many nodes a search has to make for the instance that was read
abbrev pub needed_for : {I N P : Type 0} → (I → Meaning N P) → Result I BadInput → ℕ
needed_for meaning (Ok instance) = needed (meaning instance).tree (meaning instance).least
needed_for meaning (Err fault) = 0

-- a feasible plan that no feasible plan betters
abbrev pub solving : {I N P : Type 0} → (I → Meaning N P) → Texts I P → Limits → Work
solving meaning texts limits = record {
  first_fault = λ bytes. fault_in (texts.instance_of bytes);
  IsAnswer = λ bytes status text. (status ≡ statuses.Ok) × IsSolved meaning texts limits bytes text;
  search = Some (record { limits = limits; needs = λ bytes. needed_for meaning (texts.instance_of bytes) });
  IsTooLong = λ bytes. ⊥;
}

-- the root's bound
abbrev pub bounding : {I P : Type 0} → Texts I P → Work
bounding texts = record {
  first_fault = λ bytes. fault_in (texts.instance_of bytes);
  IsAnswer = λ bytes status text. (status ≡ statuses.Ok) × IsRootBound texts bytes text;
  search = None;
  IsTooLong = λ bytes. ⊥;
}

-- the verdict on a plan behind its instance
abbrev pub checking : {I P : Type 0} → Texts I P → Work
checking texts = record {
  first_fault = λ bytes. fault_in (texts.plan_of bytes);
  IsAnswer = IsChecked texts;
  search = None;
  IsTooLong = λ bytes. ⊥;
}

-- the verdict on a history
abbrev pub auditing : Work
auditing = record {
  first_fault = λ bytes. fault_in (history_of bytes);
  IsAnswer = IsAudited;
  search = None;
  IsTooLong = λ bytes. ⊥;
}

-- a best choice of a knapsack, and the proof that no choice has more
abbrev pub proving : Limits → Work
proving limits = record {
  first_fault = λ bytes. fault_in (knapsack_of bytes);
  IsAnswer = λ bytes status text. (status ≡ statuses.Ok) × IsProved limits bytes text;
  search = Some (record {
    limits = limits;
    needs = λ bytes. needed_for knapsacks.meaning_of (knapsack_of bytes);
  });
  IsTooLong = IsProofTooLong limits;
}

-- the verdict on such a proof
abbrev pub verifying : Work
verifying = record {
  first_fault = λ bytes. fault_in (proof_of bytes);
  IsAnswer = IsVerified;
  search = None;
  IsTooLong = λ bytes. ⊥;
}

-- a history of a script that may have so many lanes
abbrev pub tracing : ℕ → ℕ → Work
tracing allowed capacity = record {
  first_fault = λ bytes. fault_in (script_of allowed bytes);
  IsAnswer = λ bytes status text. (status ≡ statuses.Ok) × IsTraced allowed capacity bytes text;
  search = None;
  IsTooLong = λ bytes. ⊥;
}

-- what is to be done with a problem
abbrev pub task_work : {I N P : Type 0} → (I → Meaning N P) → Texts I P → Task → Work
task_work meaning texts (Solve limits) = solving meaning texts limits
task_work meaning texts Bound = bounding texts
task_work meaning texts Check = checking texts

-- the same of the problem that a command names
abbrev pub used_work : Used → Task → Work
used_work u task = task_work u.meaning u.texts task

-- the text of an instance of this kind that is made from a seed
abbrev pub made_text : Kind → ℕ → ℕ → List ℕ
made_text Knapsack seed size = knapsack_text (made_knapsack seed size)
made_text Shop seed size = shop_text (made_shop seed size)

abbrev pub duty_of : Command → Duty
duty_of (commands.Solve kind branching queue workers nodes capacity) =
    Reads (used_work (used kind branching) (Solve (limits_of workers nodes capacity)))
duty_of (commands.Bound kind branching) = Reads (used_work (used kind branching) Bound)
duty_of (commands.Check kind) = Reads (used_work (used kind Dispatch) Check)
duty_of (commands.Trace queue capacity) = Reads (tracing (lanes_on queue capacity) capacity)
duty_of (commands.Prove queue workers nodes capacity) = Reads (proving (limits_of workers nodes capacity))
duty_of commands.Verify = Reads verifying
duty_of commands.Audit = Reads auditing
duty_of (commands.Make kind seed size) = Writes (made_text kind seed size)
duty_of (commands.Drill queue workers seed size) = Writes (drill_text workers seed size)
