-- The options: what each of them sets, and what holds of every one.
use Rattle.std.proofs.Common.{◌≡◌, ◌∙◌, ◌⊎◌, inl, inr, refl, sym, ap, subst, ℕ, Bool, true, false, List, [], ◌∷◌, if◌then◌else◌, Option, None, Some}
use Rattle.std.specs.Prelude.{codes}
use Rattle.std.specs.Str.{bytes_eq}
use Rattle.pq_io.specs.Reading.{number_of}
use Rattle.pq_io.proofs.Taken.{same_word}
use Rattle.cli_words.specs.declared.command.Branching.{Branching}
use Rattle.cli_words.specs.declared.queues.Which.{Which}
use Rattle.cli_words.specs.declared.settings.Settings.{Settings}
use Rattle.cli_words.specs.Queues.{which_of}
use Rattle.cli_words.specs.Words.{◌>>=◌, once, set_once, number_in, branching_of, with_queue, with_workers, with_nodes, with_capacity, with_branching, with_seed, with_size, with_option}
use Rattle.cli_words.specs.Sayings.{Saying, Valued, values_of, Becomes, IsOptionName, AreSettings}

-- one setting

pub becomes_more : {A : Type 0} (read : List ℕ → Option A) (w : List ℕ) (ws : List (List ℕ)) (before after : Option A) (value : A) →
    before ≡ None → read w ≡ Some value → Becomes read ws (Some value) after → Becomes read (w ∷ ws) before after
becomes_more read w [] None (Some x) value none is h = is ∙ sym h
becomes_more read w [] None None value none is h = absurd (cc)
becomes_more read w [] (Some y) after value none is h = absurd (cc)
becomes_more read w (v ∷ []) before after value none is h = absurd h
becomes_more read w (v ∷ u ∷ vs) before after value none is h = absurd h

pub becomes_less : {A : Type 0} (read : List ℕ → Option A) (w : List ℕ) (ws : List (List ℕ)) (before after : Option A) →
    Becomes read (w ∷ ws) before after → (before ≡ None) × (value : A) × (read w ≡ Some value) × Becomes read ws (Some value) after
becomes_less read w [] None (Some x) h = (refl, x, h, refl)
becomes_less read w [] None None h = absurd h
becomes_less read w [] (Some y) after h = absurd h
becomes_less read w (v ∷ vs) before after h = absurd h

-- a setting is given the value that was read, where it had none
pub given : {A : Type 0} (o field : Option A) (build : Option A → Settings) (s : Settings) → (o >>= λ v. once field v >>= λ f. Some (build f)) ≡ Some s →
    (field ≡ None) × (v : A) × (o ≡ Some v) × (s ≡ build (Some v))
given None field build s h = absurd (cc)
given (Some v) None build s h = (refl, v, refl, cc)
given (Some v) (Some y) build s h = absurd (cc)

pub giving : {A : Type 0} (o field : Option A) (build : Option A → Settings) (v : A) → field ≡ None → o ≡ Some v → (o >>= λ v. once field v >>= λ f. Some (build f)) ≡ Some (build (Some v))
giving o field build v none is = rw none (rw is refl)

-- What an option of this name sets: its place in the settings, and how its value is read. `more` and `less` say that
-- the other settings do not know of it.
pub record Slot (name : List ℕ) : Type 1 where
  pub Value : Type 0
  pub read : List ℕ → Option Value
  pub get : Settings → Option Value
  pub put : Settings → Option Value → Settings
  pub sets : (said : Settings) (value : List ℕ) → with_option said name value ≡ set_once read (get said) (put said) value
  pub kind : (said : Settings) (x : Option Value) → (put said x).kind ≡ said.kind
  pub dash : (word : List ℕ) → read (45 ∷ word) ≡ None
  pub more : (said s : Settings) (x : Option Value) (value : List ℕ) (sayings : List Saying) →
      (Becomes read (values_of name sayings) x (get s) → Becomes read (value ∷ values_of name sayings) (get said) (get s)) →
      AreSettings sayings (put said x) s → AreSettings (Valued name value ∷ sayings) said s
  pub less : (said s : Settings) (x : Option Value) (value : List ℕ) (sayings : List Saying) → AreSettings (Valued name value ∷ sayings) said s →
      Becomes read (value ∷ values_of name sayings) (get said) (get s) × (Becomes read (values_of name sayings) x (get s) → AreSettings sayings (put said x) s)

queue : Slot (codes "queue")
unfolding with_option with_queue number_of
queue = record {
  Value = Which;
  read = which_of;
  get = λ said. said.queue;
  put = λ said x. record said { queue = x };
  sets = λ said value. refl;
  kind = λ said x. refl;
  dash = λ word. refl;
  more = λ said s x value sayings own a. record { kind = a.kind; queue = own a.queue; workers = a.workers; nodes = a.nodes; capacity = a.capacity; branching = a.branching; seed = a.seed; size = a.size; known = (inl refl, a.known) };
  less = λ said s x value sayings a. (a.queue, λ own. record { kind = a.kind; queue = own; workers = a.workers; nodes = a.nodes; capacity = a.capacity; branching = a.branching; seed = a.seed; size = a.size; known = a.known.1 });
}

workers : Slot (codes "workers")
unfolding with_option with_workers number_of
workers = record {
  Value = ℕ;
  read = number_in;
  get = λ said. said.workers;
  put = λ said x. record said { workers = x };
  sets = λ said value. refl;
  kind = λ said x. refl;
  dash = λ word. refl;
  more = λ said s x value sayings own a. record { kind = a.kind; queue = a.queue; workers = own a.workers; nodes = a.nodes; capacity = a.capacity; branching = a.branching; seed = a.seed; size = a.size; known = (inr (inl refl), a.known) };
  less = λ said s x value sayings a. (a.workers, λ own. record { kind = a.kind; queue = a.queue; workers = own; nodes = a.nodes; capacity = a.capacity; branching = a.branching; seed = a.seed; size = a.size; known = a.known.1 });
}

nodes : Slot (codes "nodes")
unfolding with_option with_nodes number_of
nodes = record {
  Value = ℕ;
  read = number_in;
  get = λ said. said.nodes;
  put = λ said x. record said { nodes = x };
  sets = λ said value. refl;
  kind = λ said x. refl;
  dash = λ word. refl;
  more = λ said s x value sayings own a. record { kind = a.kind; queue = a.queue; workers = a.workers; nodes = own a.nodes; capacity = a.capacity; branching = a.branching; seed = a.seed; size = a.size; known = (inr (inr (inl refl)), a.known) };
  less = λ said s x value sayings a. (a.nodes, λ own. record { kind = a.kind; queue = a.queue; workers = a.workers; nodes = own; capacity = a.capacity; branching = a.branching; seed = a.seed; size = a.size; known = a.known.1 });
}

capacity : Slot (codes "capacity")
unfolding with_option with_capacity number_of
capacity = record {
  Value = ℕ;
  read = number_in;
  get = λ said. said.capacity;
  put = λ said x. record said { capacity = x };
  sets = λ said value. refl;
  kind = λ said x. refl;
  dash = λ word. refl;
  more = λ said s x value sayings own a. record { kind = a.kind; queue = a.queue; workers = a.workers; nodes = a.nodes; capacity = own a.capacity; branching = a.branching; seed = a.seed; size = a.size; known = (inr (inr (inr (inl refl))), a.known) };
  less = λ said s x value sayings a. (a.capacity, λ own. record { kind = a.kind; queue = a.queue; workers = a.workers; nodes = a.nodes; capacity = own; branching = a.branching; seed = a.seed; size = a.size; known = a.known.1 });
}

branching : Slot (codes "branching")
unfolding with_option with_branching number_of
branching = record {
  Value = Branching;
  read = branching_of;
  get = λ said. said.branching;
  put = λ said x. record said { branching = x };
  sets = λ said value. refl;
  kind = λ said x. refl;
  dash = λ word. refl;
  more = λ said s x value sayings own a. record { kind = a.kind; queue = a.queue; workers = a.workers; nodes = a.nodes; capacity = a.capacity; branching = own a.branching; seed = a.seed; size = a.size; known = (inr (inr (inr (inr (inl refl)))), a.known) };
  less = λ said s x value sayings a. (a.branching, λ own. record { kind = a.kind; queue = a.queue; workers = a.workers; nodes = a.nodes; capacity = a.capacity; branching = own; seed = a.seed; size = a.size; known = a.known.1 });
}

seed : Slot (codes "seed")
unfolding with_option with_seed number_of
seed = record {
  Value = ℕ;
  read = number_in;
  get = λ said. said.seed;
  put = λ said x. record said { seed = x };
  sets = λ said value. refl;
  kind = λ said x. refl;
  dash = λ word. refl;
  more = λ said s x value sayings own a. record { kind = a.kind; queue = a.queue; workers = a.workers; nodes = a.nodes; capacity = a.capacity; branching = a.branching; seed = own a.seed; size = a.size; known = (inr (inr (inr (inr (inr (inl refl))))), a.known) };
  less = λ said s x value sayings a. (a.seed, λ own. record { kind = a.kind; queue = a.queue; workers = a.workers; nodes = a.nodes; capacity = a.capacity; branching = a.branching; seed = own; size = a.size; known = a.known.1 });
}

size : Slot (codes "size")
unfolding with_option with_size number_of
size = record {
  Value = ℕ;
  read = number_in;
  get = λ said. said.size;
  put = λ said x. record said { size = x };
  sets = λ said value. refl;
  kind = λ said x. refl;
  dash = λ word. refl;
  more = λ said s x value sayings own a. record { kind = a.kind; queue = a.queue; workers = a.workers; nodes = a.nodes; capacity = a.capacity; branching = a.branching; seed = a.seed; size = own a.size; known = (inr (inr (inr (inr (inr (inr (refl)))))), a.known) };
  less = λ said s x value sayings a. (a.size, λ own. record { kind = a.kind; queue = a.queue; workers = a.workers; nodes = a.nodes; capacity = a.capacity; branching = a.branching; seed = a.seed; size = own; known = a.known.1 });
}

-- what holds of each option's name holds of every one
pub by_name : (P : List ℕ → Type 0) → P (codes "queue") → P (codes "workers") → P (codes "nodes") → P (codes "capacity") → P (codes "branching") →
    P (codes "seed") → P (codes "size") → (name : List ℕ) → IsOptionName name → P name
by_name P q w n c b d z name is = elim is [
  | inl e ↦ subst P (sym e) q
  | inr (inl e) ↦ subst P (sym e) w
  | inr (inr (inl e)) ↦ subst P (sym e) n
  | inr (inr (inr (inl e))) ↦ subst P (sym e) c
  | inr (inr (inr (inr (inl e)))) ↦ subst P (sym e) b
  | inr (inr (inr (inr (inr (inl e))))) ↦ subst P (sym e) d
  | inr (inr (inr (inr (inr (inr (e)))))) ↦ subst P (sym e) z
]

-- and what holds where there is a slot
by_option : (P : List ℕ → Type 0) → ((n : List ℕ) → Slot n → P n) → (name : List ℕ) → IsOptionName name → P name
by_option P each name is =
    by_name P (each _ queue) (each _ workers) (each _ nodes) (each _ capacity) (each _ branching) (each _ seed) (each _ size) name is

-- an option that is set is one of those that there are
one_of : (name n : List ℕ) (b : Bool) (x rest : Option Settings) (t : Settings) → bytes_eq name n ≡ b → (if b then x else rest) ≡ Some t →
    (name ≡ n) ⊎ (rest ≡ Some t)
one_of name n true x rest t e h = inl (same_word name n e)
one_of name n false x rest t e h = inr h

or_more : {A B C : Type 0} → A ⊎ B → (B → C) → A ⊎ C
or_more (inl a) f = inl a
or_more (inr b) f = inr (f b)

pub is_known : (said t : Settings) (name value : List ℕ) → with_option said name value ≡ Some t → IsOptionName name
unfolding with_option
is_known said t name value h =
    or_more (one_of name (codes "queue") _ _ _ t refl h) (λ h.
    or_more (one_of name (codes "workers") _ _ _ t refl h) (λ h.
    or_more (one_of name (codes "nodes") _ _ _ t refl h) (λ h.
    or_more (one_of name (codes "capacity") _ _ _ t refl h) (λ h.
    or_more (one_of name (codes "branching") _ _ _ t refl h) (λ h.
    or_more (one_of name (codes "seed") _ _ _ t refl h) (λ h.
    elim (one_of name (codes "size") _ (with_size said value) None t refl h) [
      | inl e ↦ e
      | inr none ↦ absurd (cc)
    ]))))))

-- one thing more is said, with an option

more_said : (name : List ℕ) → Slot name → (said t s : Settings) (value : List ℕ) (sayings : List Saying) →
    with_option said name value ≡ Some t → AreSettings sayings t s → AreSettings (Valued name value ∷ sayings) said s
more_said name slot said t s value sayings h more =
    let g = given (slot.read value) (slot.get said) (slot.put said) t (sym (slot.sets said value) ∙ h) in
    slot.more said s (Some g.1) value sayings (becomes_more slot.read value (values_of name sayings) (slot.get said) (slot.get s) g.1 g.0 g.2)
    (subst (λ x. AreSettings sayings x s) g.3 more)

less_said : (name : List ℕ) → Slot name → (said s : Settings) (value : List ℕ) (sayings : List Saying) → AreSettings (Valued name value ∷ sayings) said s →
    (t : Settings) × (with_option said name value ≡ Some t) × AreSettings sayings t s
less_said name slot said s value sayings a =
    let b = becomes_less slot.read value (values_of name sayings) (slot.get said) (slot.get s) (slot.less said s None value sayings a).0 in (
      slot.put said (Some b.1),
      slot.sets said value ∙ giving (slot.read value) (slot.get said) (slot.put said) b.1 b.0 b.2,
      (slot.less said s (Some b.1) value sayings a).1 b.3,
    )

pub said_by_option : (said t s : Settings) (name value : List ℕ) (sayings : List Saying) → with_option said name value ≡ Some t →
    AreSettings sayings t s → AreSettings (Valued name value ∷ sayings) said s
said_by_option said t s name value sayings h more =
    by_option (λ n. with_option said n value ≡ Some t → AreSettings (Valued n value ∷ sayings) said s)
    (λ n slot h. more_said n slot said t s value sayings h more) name (is_known said t name value h) h

pub option_said : (said s : Settings) (name value : List ℕ) (sayings : List Saying) → AreSettings (Valued name value ∷ sayings) said s →
    (t : Settings) × (with_option said name value ≡ Some t) × AreSettings sayings t s
option_said said s name value sayings a =
    by_option (λ n. AreSettings (Valued n value ∷ sayings) said s → (t : Settings) × (with_option said n value ≡ Some t) × AreSettings sayings t s)
    (λ n slot a. less_said n slot said s value sayings a) name a.known.0 a

-- an option keeps the problem
pub kind_kept : (s t : Settings) (name value : List ℕ) → with_option s name value ≡ Some t → t.kind ≡ s.kind
kind_kept s t name value h =
    by_option (λ n. with_option s n value ≡ Some t → t.kind ≡ s.kind)
    (λ n slot h. let g = given (slot.read value) (slot.get s) (slot.put s) t (sym (slot.sets s value) ∙ h) in
    ap (λ (u : Settings). u.kind) g.3 ∙ slot.kind s (Some g.1))
    name (is_known s t name value h) h

-- no value begins with a dash
none_read : {A : Type 0} (o field : Option A) (build : Option A → Settings) → o ≡ None → (o >>= λ v. once field v >>= λ f. Some (build f)) ≡ None
none_read o field build none = rw none refl

none_if_not : {A : Type 0} (o : Option A) → ((x : A) → o ≡ Some x → o ≡ None) → o ≡ None
none_if_not None h = refl
none_if_not (Some x) h = h x refl

pub dash_option : (s : Settings) (name word : List ℕ) → with_option s name (45 ∷ word) ≡ None
dash_option s name word = none_if_not (with_option s name (45 ∷ word)) (λ t h.
    by_option (λ n. with_option s n (45 ∷ word) ≡ None)
    (λ n slot. slot.sets s (45 ∷ word) ∙ none_read (slot.read (45 ∷ word)) (slot.get s) (slot.put s) (slot.dash word))
    name (is_known s t name (45 ∷ word) h))
