-- What is read of the rows that clap found, by their ids, is what they say.
use Rattle.std.proofs.Common.{◌≡◌, ◌∙◌, ◌⊎◌, inl, inr, refl, sym, ap, subst, ℕ, Bool, true, false, List, [], ◌∷◌, map, if◌then◌else◌, Option, None, Some}
use Rattle.std.specs.Prelude.{codes, slice_get}
use Rattle.std.specs.Str.{bytes_eq}
use Rattle.clap.specs.Walk.{Row, Text, has_row, first_of}
use Rattle.cli_words.specs.declared.command.Branching.{Branching}
use Rattle.cli_words.specs.declared.command.Kind.{Kind}
use Rattle.cli_words.specs.declared.queues.Which.{Which}
use Rattle.cli_words.specs.declared.settings.Settings.{Settings}
use Rattle.cli_words.specs.Queues.{which_of}
use Rattle.cli_words.specs.Words.{◌>>=◌, kind_of, branching_of, number_in}
use Rattle.cli_words.specs.Sayings.{Saying, Named, Valued, named, values_of, Becomes, AreKnown}
use Rattle.cli_words.specs.CommandWords.{nothing}
use Rattle.cli_words.specs.Parser.{read_of, settings_in}
use Rattle.cli_words.proofs.Options.{by_name}
use Rattle.cli_words.proofs.SayingsRead.{all_are_settings, settings_are_all}
use Rattle.cli_words.proofs.ClapRows.{saying_of, settings_by, first_value, same_bytes, none_of_or, IsId, AreGood}

-- the values of an id: none, or one
abbrev Once : Text → List Row → List Text → Type 0
Once id rows values = ((first_of id rows ≡ None) × (values ≡ [])) ⊎ ((v : Text) × (first_of id rows ≡ Some v) × (values ≡ v ∷ []))

absent_by : (id : Text) (r : Row) (rs : List Row) (is_kind : Bool) → bytes_eq id (codes "kind") ≡ false → bytes_eq r.id (codes "kind") ≡ is_kind → bytes_eq r.id id ≡ false →
    (first_of id rs ≡ None) × (values_of id (map saying_of rs) ≡ []) → (first_of id (r ∷ rs) ≡ None) × (values_of id (map saying_of (r ∷ rs)) ≡ [])
absent_by id r rs true other e f h = (rw f h.0, rw e h.1)
absent_by id r rs false other e f h = (rw f h.0, rw (e, f) h.1)

absent : (id : Text) (rows : List Row) → bytes_eq id (codes "kind") ≡ false → has_row id rows ≡ false → (first_of id rows ≡ None) × (values_of id (map saying_of rows) ≡ [])
absent id [] other h = (refl, refl)
absent id (r ∷ rs) other h =
    let b = none_of_or (bytes_eq r.id id) (has_row id rs) h in
    absent_by id r rs (bytes_eq r.id (codes "kind")) other refl b.0 (absent id rs other b.1)

first_of_row : (values : List Text) → values ≡ first_value values ∷ [] → slice_get values 0 ≡ Some (first_value values)
first_of_row [] h = absurd (cc)
first_of_row (v ∷ vs) h = refl

once_by : (id : Text) (r : Row) (rs : List Row) (is_kind is_id : Bool) → bytes_eq id (codes "kind") ≡ false → bytes_eq r.id (codes "kind") ≡ is_kind → bytes_eq r.id id ≡ is_id →
    r.values ≡ first_value r.values ∷ [] → has_row r.id rs ≡ false → Once id rs (values_of id (map saying_of rs)) → Once id (r ∷ rs) (values_of id (map saying_of (r ∷ rs)))
once_by id r rs true true other e f one single rest =
    let same = same_bytes r.id id f in
    let both : bytes_eq id (codes "kind") ≡ true = subst (λ (t : Text). bytes_eq t (codes "kind") ≡ true) same e in
    absurd (cc)
once_by id r rs false true other e f one single rest =
    let same = same_bytes r.id id f in
    let gone = absent id rs other (subst (λ (t : Text). has_row t rs ≡ false) same single) in
    inr (first_value r.values, rw f (first_of_row r.values one), rw (e, f) (ap (λ vs. first_value r.values ∷ vs) gone.1))
once_by id r rs true false other e f one single (inl h) = inl (rw f h.0, rw e h.1)
once_by id r rs true false other e f one single (inr h) = inr (h.0, rw f h.1, rw e h.2)
once_by id r rs false false other e f one single (inl h) = inl (rw f h.0, rw (e, f) h.1)
once_by id r rs false false other e f one single (inr h) = inr (h.0, rw f h.1, rw (e, f) h.2)

once : (id : Text) (rows : List Row) → bytes_eq id (codes "kind") ≡ false → AreGood rows → Once id rows (values_of id (map saying_of rows))
once id [] other good = inl (refl, refl)
once id (r ∷ rs) other good = once_by id r rs (bytes_eq r.id (codes "kind")) (bytes_eq r.id id) other refl refl good.1 good.2 (once id rs other good.3)

unnamed_by : (r : Row) (rs : List Row) → bytes_eq r.id (codes "kind") ≡ false →
    (first_of (codes "kind") rs ≡ None) × (named (map saying_of rs) ≡ []) → (first_of (codes "kind") (r ∷ rs) ≡ None) × (named (map saying_of (r ∷ rs)) ≡ [])
unnamed_by r rs e h = (rw e h.0, rw e h.1)

unnamed : (rows : List Row) → has_row (codes "kind") rows ≡ false → (first_of (codes "kind") rows ≡ None) × (named (map saying_of rows) ≡ [])
unnamed [] h = (refl, refl)
unnamed (r ∷ rs) h = let b = none_of_or (bytes_eq r.id (codes "kind")) (has_row (codes "kind") rs) h in unnamed_by r rs b.0 (unnamed rs b.1)

named_by : (r : Row) (rs : List Row) (is_kind : Bool) → bytes_eq r.id (codes "kind") ≡ is_kind → r.values ≡ first_value r.values ∷ [] → has_row r.id rs ≡ false →
    Once (codes "kind") rs (named (map saying_of rs)) → Once (codes "kind") (r ∷ rs) (named (map saying_of (r ∷ rs)))
named_by r rs true e one single rest =
    let gone = unnamed rs (subst (λ (t : Text). has_row t rs ≡ false) (same_bytes r.id (codes "kind") e) single) in
    inr (first_value r.values, rw e (first_of_row r.values one), rw e (ap (λ vs. first_value r.values ∷ vs) gone.1))
named_by r rs false e one single (inl h) = inl (rw e h.0, rw e h.1)
named_by r rs false e one single (inr h) = inr (h.0, rw e h.1, rw e h.2)

named_once : (rows : List Row) → AreGood rows → Once (codes "kind") rows (named (map saying_of rows))
named_once [] good = inl (refl, refl)
named_once (r ∷ rs) good = named_by r rs (bytes_eq r.id (codes "kind")) refl good.1 good.2 (named_once rs good.3)

known_by : (r : Row) (S : List Saying) → IsId r.id → AreKnown S → AreKnown (saying_of r ∷ S)
known_by r S (inl is) h =
    by_name (λ t. AreKnown ((if bytes_eq t (codes "kind") then Named (first_value r.values) else Valued t (first_value r.values)) ∷ S))
    (inl refl, h) (inr (inl refl), h) (inr (inr (inl refl)), h) (inr (inr (inr (inl refl))), h) (inr (inr (inr (inr (inl refl)))), h)
    (inr (inr (inr (inr (inr (inl refl))))), h) (inr (inr (inr (inr (inr (inr refl))))), h) r.id is
known_by r S (inr e) h = rw e h

all_known : (rows : List Row) → AreGood rows → AreKnown (map saying_of rows)
all_known [] good = tt
all_known (r ∷ rs) good = known_by r (map saying_of rs) good.0 (all_known rs good.3)

-- a text that was found reads as the setting that it becomes

-- one that is there
abbrev IsRead : {A : Type 0} → Option A → Option A → Type 0
IsRead o None = ⊥
IsRead o (Some value) = o ≡ Some value

read_value : {A : Type 0} (o : Option A) (f : Option A) → (o >>= λ value. Some (Some value)) ≡ Some f → IsRead o f
read_value None f h = absurd (cc)
read_value (Some x) None h = absurd (cc)
read_value (Some x) (Some y) h = cc

becomes_read : {A : Type 0} (read : Text → Option A) (v : Text) (f : Option A) → IsRead (read v) f → Becomes read (v ∷ []) None f
becomes_read read v None h = h
becomes_read read v (Some y) h = h

reads_as : {A : Type 0} (read : Text → Option A) (v : Text) (f : Option A) → Becomes read (v ∷ []) None f → read_of read (Some v) ≡ Some f
reads_as read v None h = absurd h
reads_as read v (Some y) h = rw h refl

read_becomes : {A : Type 0} (read : Text → Option A) (o : Option Text) (values : List Text) (f : Option A) →
    ((o ≡ None) × (values ≡ [])) ⊎ ((v : Text) × (o ≡ Some v) × (values ≡ v ∷ [])) → read_of read o ≡ Some f → Becomes read values None f
read_becomes read o values f (inl h) is = rw h.1 (let none : Some None ≡ Some f = sym (ap (read_of read) h.0) ∙ is in cc)
read_becomes read o values f (inr h) is = rw h.2 (becomes_read read h.0 f (read_value (read h.0) f (sym (ap (read_of read) h.1) ∙ is)))

becomes_found : {A : Type 0} (read : Text → Option A) (o : Option Text) (values : List Text) (f : Option A) →
    ((o ≡ None) × (values ≡ [])) ⊎ ((v : Text) × (o ≡ Some v) × (values ≡ v ∷ [])) → Becomes read values None f → read_of read o ≡ Some f
becomes_found read o values f (inl h) is = rw h.0 (let none : f ≡ None = rw h.1 at is in ap (λ x. Some x) (sym none))
becomes_found read o values f (inr h) is = rw h.1 (reads_as read h.0 f (rw h.2 at is))

-- all settings together

abbrev joined : Option (Option Kind) → Option (Option Branching) → Option (Option Which) → Option (Option ℕ) → Option (Option ℕ) → Option (Option ℕ) → Option (Option ℕ) → Option (Option ℕ) → Option Settings
joined k b q w n c d z =
    k >>= λ kind. b >>= λ branching. q >>= λ queue. w >>= λ workers. n >>= λ nodes. c >>= λ capacity. d >>= λ seed. z >>= λ size.
    Some (record { kind = kind; branching = branching; queue = queue; workers = workers; nodes = nodes; capacity = capacity; seed = seed; size = size })

record AreJoined (k : Option (Option Kind)) (b : Option (Option Branching)) (q : Option (Option Which)) (w n c d z : Option (Option ℕ)) (s : Settings) : Type 0 where
  pub kind : k ≡ Some s.kind
  pub branching : b ≡ Some s.branching
  pub queue : q ≡ Some s.queue
  pub workers : w ≡ Some s.workers
  pub nodes : n ≡ Some s.nodes
  pub capacity : c ≡ Some s.capacity
  pub seed : d ≡ Some s.seed
  pub size : z ≡ Some s.size

some_is : {A : Type 0} (x y : A) → Some x ≡ Some y → x ≡ y
some_is x y h = cc

are_joined : (k : Option (Option Kind)) (b : Option (Option Branching)) (q : Option (Option Which)) (w n c d z : Option (Option ℕ)) (s : Settings) → joined k b q w n c d z ≡ Some s → AreJoined k b q w n c d z s
are_joined None b q w n c d z s h = absurd (cc)
are_joined (Some k) None q w n c d z s h = absurd (cc)
are_joined (Some k) (Some b) None w n c d z s h = absurd (cc)
are_joined (Some k) (Some b) (Some q) None n c d z s h = absurd (cc)
are_joined (Some k) (Some b) (Some q) (Some w) None c d z s h = absurd (cc)
are_joined (Some k) (Some b) (Some q) (Some w) (Some n) None d z s h = absurd (cc)
are_joined (Some k) (Some b) (Some q) (Some w) (Some n) (Some c) None z s h = absurd (cc)
are_joined (Some k) (Some b) (Some q) (Some w) (Some n) (Some c) (Some d) None s h = absurd (cc)
are_joined (Some k) (Some b) (Some q) (Some w) (Some n) (Some c) (Some d) (Some z) s h =
    let e = some_is _ _ h in
    record {
      kind = ap (λ (t : Settings). Some t.kind) e;
      branching = ap (λ (t : Settings). Some t.branching) e;
      queue = ap (λ (t : Settings). Some t.queue) e;
      workers = ap (λ (t : Settings). Some t.workers) e;
      nodes = ap (λ (t : Settings). Some t.nodes) e;
      capacity = ap (λ (t : Settings). Some t.capacity) e;
      seed = ap (λ (t : Settings). Some t.seed) e;
      size = ap (λ (t : Settings). Some t.size) e;
    }

joined_is : (k : Option (Option Kind)) (b : Option (Option Branching)) (q : Option (Option Which)) (w n c d z : Option (Option ℕ)) (s : Settings) → AreJoined k b q w n c d z s → joined k b q w n c d z ≡ Some s
joined_is k b q w n c d z s a = rw (a.kind, a.branching, a.queue, a.workers, a.nodes, a.capacity, a.seed, a.size) refl

found_said : (rows : List Row) (s : Settings) → AreGood rows → settings_in rows ≡ Some s → settings_by rows ≡ Some s
found_said rows s good h =
    let a = are_joined (read_of kind_of (first_of (codes "kind") rows)) (read_of branching_of (first_of (codes "branching") rows)) (read_of which_of (first_of (codes "queue") rows))
    (read_of number_in (first_of (codes "workers") rows)) (read_of number_in (first_of (codes "nodes") rows)) (read_of number_in (first_of (codes "capacity") rows))
    (read_of number_in (first_of (codes "seed") rows)) (read_of number_in (first_of (codes "size") rows)) s h in
    settings_are_all nothing s (map saying_of rows) (record {
      kind = read_becomes kind_of _ _ s.kind (named_once rows good) a.kind;
      queue = read_becomes which_of _ _ s.queue (once (codes "queue") rows refl good) a.queue;
      workers = read_becomes number_in _ _ s.workers (once (codes "workers") rows refl good) a.workers;
      nodes = read_becomes number_in _ _ s.nodes (once (codes "nodes") rows refl good) a.nodes;
      capacity = read_becomes number_in _ _ s.capacity (once (codes "capacity") rows refl good) a.capacity;
      branching = read_becomes branching_of _ _ s.branching (once (codes "branching") rows refl good) a.branching;
      seed = read_becomes number_in _ _ s.seed (once (codes "seed") rows refl good) a.seed;
      size = read_becomes number_in _ _ s.size (once (codes "size") rows refl good) a.size;
      known = all_known rows good;
    })

said_found : (rows : List Row) (s : Settings) → AreGood rows → settings_by rows ≡ Some s → settings_in rows ≡ Some s
said_found rows s good h =
    let a = all_are_settings nothing s (map saying_of rows) h in
    joined_is _ _ _ _ _ _ _ _ s (record {
      kind = becomes_found kind_of (first_of (codes "kind") rows) _ s.kind (named_once rows good) a.kind;
      branching = becomes_found branching_of (first_of (codes "branching") rows) _ s.branching (once (codes "branching") rows refl good) a.branching;
      queue = becomes_found which_of (first_of (codes "queue") rows) _ s.queue (once (codes "queue") rows refl good) a.queue;
      workers = becomes_found number_in (first_of (codes "workers") rows) _ s.workers (once (codes "workers") rows refl good) a.workers;
      nodes = becomes_found number_in (first_of (codes "nodes") rows) _ s.nodes (once (codes "nodes") rows refl good) a.nodes;
      capacity = becomes_found number_in (first_of (codes "capacity") rows) _ s.capacity (once (codes "capacity") rows refl good) a.capacity;
      seed = becomes_found number_in (first_of (codes "seed") rows) _ s.seed (once (codes "seed") rows refl good) a.seed;
      size = becomes_found number_in (first_of (codes "size") rows) _ s.size (once (codes "size") rows refl good) a.size;
    })

same_option : {A : Type 0} (a b : Option A) → ((x : A) → a ≡ Some x → b ≡ Some x) → ((x : A) → b ≡ Some x → a ≡ Some x) → a ≡ b
same_option None None f g = refl
same_option None (Some y) f g = g y refl
same_option (Some x) b f g = sym (f x refl)

-- what is found by the ids is what the rows say
pub found_is_said : (rows : List Row) → AreGood rows → settings_in rows ≡ settings_by rows
found_is_said rows good = same_option (settings_in rows) (settings_by rows) (λ s h. found_said rows s good h) (λ s h. said_found rows s good h)
