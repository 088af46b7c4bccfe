-- Words are read as settings exactly where they say them.
use Rattle.std.proofs.Common.{◌≡◌, ◌∙◌, ◌⊎◌, ◌+◌, inl, inr, refl, sym, ap, subst, ℕ, suc, Bool, true, false, cond, nat_lt, ◌==◌, List, [], ◌∷◌, ◌++◌, length, length-append, take, drop, Option, None, Some, arith}
use Rattle.std.proofs.lemmas.Bool.Decides.{nat_tests}
use Rattle.std.specs.List.{position_or_len}
use Rattle.cli_words.specs.declared.command.Branching.{Branching}
use Rattle.cli_words.specs.declared.command.Kind.{Kind}
use Rattle.cli_words.specs.declared.queues.Which.{Which}
use Rattle.cli_words.specs.declared.settings.Settings.{Settings}
use Rattle.cli_words.specs.Words.{◌>>=◌, kind_of, with_kind, with_option, with_lone, with_last, with_body, with_split, after_two, unless_split, behind_dashes, split_at_equals, pair_name, settings_from}
use Rattle.cli_words.specs.Sayings.{Saying, Named, Valued, HasNoEquals, IsOption, Say, named, AreSettings, AreSaid}
use Rattle.cli_words.proofs.Options.{given, giving, becomes_more, becomes_less, said_by_option, option_said}
use Rattle.cli_words.proofs.WordSteps.{lone_step, pair_step}

-- a word behind two dashes

pub place : (n v : List ℕ) → HasNoEquals n → position_or_len (λ b. b == 61) (n ++ 61 ∷ v) ≡ length n
place [] v h = refl
place (b ∷ n) v h = rw h.0 (omega (arith, place n v h.1))

pub nowhere : (n : List ℕ) → HasNoEquals n → position_or_len (λ b. b == 61) n ≡ length n
nowhere [] h = refl
nowhere (b ∷ n) h = rw h.0 (omega (arith, nowhere n h.1))

longer : (n v : List ℕ) → nat_lt (length n) (length (n ++ 61 ∷ v)) ≡ true
longer n v = grind (arith, nat_tests, length-append n (61 ∷ v))

pub take_own : (n v : List ℕ) → take (length n) (n ++ v) ≡ n
take_own [] v = refl
take_own (b ∷ n) v = ap (λ xs. b ∷ xs) (take_own n v)

pub drop_own : (n v : List ℕ) → drop (length n + 1) (n ++ 61 ∷ v) ≡ v
drop_own [] v = refl
drop_own (b ∷ n) v =
    let more : suc (length n) + 1 ≡ suc (length n + 1) = omega arith in
    ap (λ k. drop k (b ∷ (n ++ 61 ∷ v))) more ∙ drop_own n v

irreflexive : (n : ℕ) → nat_lt n n ≡ false
irreflexive n = grind (arith, nat_tests)

pair_is : {A B : Type 0} (a c : A) (b d : B) → a ≡ c → b ≡ d → ◌≡◌ {A = Option (A × B)} (Some (a, b)) (Some (c, d))
pair_is a c b d e f = ap (λ x. Some (x, b)) e ∙ ap (λ y. Some (c, y)) f

split_none : (n : List ℕ) → HasNoEquals n → split_at_equals n ≡ None
split_none n h = ap (λ k. cond (nat_lt k (length n)) (Some k) None >>= λ at. Some (take at n, drop (at + 1) n)) (nowhere n h) ∙ rw (irreflexive (length n)) refl

split_some : (n v : List ℕ) → HasNoEquals n → split_at_equals (n ++ 61 ∷ v) ≡ Some (n, v)
split_some n v h =
    let body = n ++ 61 ∷ v in
    ap (λ k. cond (nat_lt k (length body)) (Some k) None >>= λ at. Some (take at body, drop (at + 1) body)) (place n v h)
    ∙ rw (longer n v) (pair_is _ _ _ _ (take_own n (61 ∷ v)) (drop_own n v))

-- a byte more before the first `=`, if any
parts_more : (b : ℕ) (bs : List ℕ) (is : Bool) → (b == 61) ≡ is → HasNoEquals bs ⊎ ((n : List ℕ) × (v : List ℕ) × (bs ≡ n ++ 61 ∷ v) × HasNoEquals n) →
    HasNoEquals (b ∷ bs) ⊎ ((n : List ℕ) × (v : List ℕ) × (b ∷ bs ≡ n ++ 61 ∷ v) × HasNoEquals n)
parts_more b bs true e h = inr ([], bs, ap (λ x. x ∷ bs) (grind (arith, nat_tests)), tt)
parts_more b bs false e (inl h) = inl (e, h)
parts_more b bs false e (inr h) = inr (b ∷ h.0, h.1, ap (λ xs. b ∷ xs) h.2, (e, h.3))

-- a word has no `=`, or a first one
parts : (body : List ℕ) → HasNoEquals body ⊎ ((n : List ℕ) × (v : List ℕ) × (body ≡ n ++ 61 ∷ v) × HasNoEquals n)
parts [] = inl tt
parts (b ∷ bs) = parts_more b bs (b == 61) refl (parts bs)

two_are : (a b : ℕ) (bs : List ℕ) → a ≡ 45 → b ≡ 45 → a ∷ b ∷ bs ≡ 45 ∷ 45 ∷ bs
two_are a b bs e f = cc

dashes_more : (a b : ℕ) (bs : List ℕ) (x y : Bool) → (a == 45) ≡ x → (b == 45) ≡ y →
    (behind_dashes (a ∷ b ∷ bs) ≡ None) ⊎ ((body : List ℕ) × (a ∷ b ∷ bs ≡ 45 ∷ 45 ∷ body) × (behind_dashes (a ∷ b ∷ bs) ≡ Some body))
dashes_more a b bs true true e f = inr (bs, two_are a b bs (grind (arith, nat_tests)) (grind (arith, nat_tests)), rw e (rw f refl))
dashes_more a b bs true false e f = inl (rw e (rw f refl))
dashes_more a b bs false y e f = inl (rw e refl)

-- a word begins with two dashes, or not
dashes : (w : List ℕ) → (behind_dashes w ≡ None) ⊎ ((body : List ℕ) × (w ≡ 45 ∷ 45 ∷ body) × (behind_dashes w ≡ Some body))
dashes [] = inl refl
dashes (a ∷ []) = inl refl
dashes (a ∷ b ∷ bs) = dashes_more a b bs (a == 45) (b == 45) refl refl

-- one step after the other

pub bound_is : {A B : Type 0} (o : Option A) (f : A → Option B) (y : B) → (o >>= f) ≡ Some y → (x : A) × (o ≡ Some x) × (f x ≡ Some y)
bound_is None f y h = absurd (cc)
bound_is (Some x) f y h = (x, refl, h)

binding : {A B : Type 0} (o : Option A) (f : A → Option B) (x : A) (y : B) → o ≡ Some x → f x ≡ Some y → (o >>= f) ≡ Some y
binding o f x y is h = ap (λ p. p >>= f) is ∙ h

-- what the words say, one thing after the other

abbrev pub with_saying : Settings → Saying → Option Settings
with_saying said (Named word) = with_kind said word
with_saying said (Valued name value) = with_option said name value

abbrev pub with_all : Settings → List Saying → Option Settings
with_all said [] = Some said
with_all said (saying ∷ sayings) = with_saying said saying >>= λ t. with_all t sayings

-- the settings that the things said give

made : Option Kind → Option Which → Option ℕ → Option ℕ → Option ℕ → Option Branching → Option ℕ → Option ℕ → Settings
made k q w n c b d z = record { kind = k; queue = q; workers = w; nodes = n; capacity = c; branching = b; seed = d; size = z }

same_settings : (a b : Settings) → a.kind ≡ b.kind → a.queue ≡ b.queue → a.workers ≡ b.workers → a.nodes ≡ b.nodes → a.capacity ≡ b.capacity → a.branching ≡ b.branching → a.seed ≡ b.seed → a.size ≡ b.size → a ≡ b
unfolding made
same_settings a b k q w n c r d z =
    ap (λ x. made x a.queue a.workers a.nodes a.capacity a.branching a.seed a.size) k
    ∙ ap (λ x. made b.kind x a.workers a.nodes a.capacity a.branching a.seed a.size) q
    ∙ ap (λ x. made b.kind b.queue x a.nodes a.capacity a.branching a.seed a.size) w
    ∙ ap (λ x. made b.kind b.queue b.workers x a.capacity a.branching a.seed a.size) n
    ∙ ap (λ x. made b.kind b.queue b.workers b.nodes x a.branching a.seed a.size) c
    ∙ ap (λ x. made b.kind b.queue b.workers b.nodes b.capacity x a.seed a.size) r
    ∙ ap (λ x. made b.kind b.queue b.workers b.nodes b.capacity b.branching x a.size) d
    ∙ ap (λ x. made b.kind b.queue b.workers b.nodes b.capacity b.branching b.seed x) z

said_kind : (said t s : Settings) (word : List ℕ) (sayings : List Saying) → with_kind said word ≡ Some t → AreSettings sayings t s → AreSettings (Named word ∷ sayings) said s
unfolding with_kind
said_kind said t s word sayings h more =
    let g = given (kind_of word) said.kind (λ k. record said { kind = k }) t h in
    let m = subst (λ x. AreSettings sayings x s) g.3 more in
    record { kind = becomes_more kind_of word (named sayings) said.kind s.kind g.1 g.0 g.2 m.kind; queue = m.queue; workers = m.workers; nodes = m.nodes; capacity = m.capacity; branching = m.branching; seed = m.seed; size = m.size; known = m.known }

pub all_are_settings : (said s : Settings) (sayings : List Saying) → with_all said sayings ≡ Some s → AreSettings sayings said s
all_are_settings said s [] h = record { kind = cc; queue = cc; workers = cc; nodes = cc; capacity = cc; branching = cc; seed = cc; size = cc; known = tt }
all_are_settings said s (Named word ∷ sayings) h =
    let b = bound_is (with_kind said word) (λ t. with_all t sayings) s h in
    said_kind said b.0 s word sayings b.1 (all_are_settings b.0 s sayings b.2)
all_are_settings said s (Valued name value ∷ sayings) h =
    let b = bound_is (with_option said name value) (λ t. with_all t sayings) s h in
    said_by_option said b.0 s name value sayings b.1 (all_are_settings b.0 s sayings b.2)

-- settings that are said are those that the things said give

kind_said : (said s : Settings) (word : List ℕ) (sayings : List Saying) → AreSettings (Named word ∷ sayings) said s → (t : Settings) × (with_kind said word ≡ Some t) × AreSettings sayings t s
unfolding with_kind
kind_said said s word sayings a =
    let b = becomes_less kind_of word (named sayings) said.kind s.kind a.kind in (
      record said { kind = Some b.1 },
      giving (kind_of word) said.kind (λ k. record said { kind = k }) b.1 b.0 b.2,
      record { kind = b.3; queue = a.queue; workers = a.workers; nodes = a.nodes; capacity = a.capacity; branching = a.branching; seed = a.seed; size = a.size; known = a.known },
    )

pub settings_are_all : (said s : Settings) (sayings : List Saying) → AreSettings sayings said s → with_all said sayings ≡ Some s
settings_are_all said s [] a = ap (λ x. Some x) (sym (same_settings s said a.kind a.queue a.workers a.nodes a.capacity a.branching a.seed a.size))
settings_are_all said s (Named word ∷ sayings) a =
    let b = kind_said said s word sayings a in
    binding (with_kind said word) (λ t. with_all t sayings) b.0 s b.1 (settings_are_all b.0 s sayings b.2)
settings_are_all said s (Valued name value ∷ sayings) a =
    let b = option_said said s name value sayings a in
    binding (with_option said name value) (λ t. with_all t sayings) b.0 s b.1 (settings_are_all b.0 s sayings b.2)

-- words are read as what they say

pub named_word : (said : Settings) (word : List ℕ) → behind_dashes word ≡ None → (pair_name word ≡ None) × (with_lone said word ≡ with_kind said word)
unfolding pair_name with_lone
named_word said word none = (rw none refl, ap (with_body said word) none)

pub open_word : (name : List ℕ) → HasNoEquals name → pair_name (45 ∷ 45 ∷ name) ≡ Some name
unfolding pair_name
open_word name h = ap (unless_split name) (split_none name h)

pub whole_word : (said : Settings) (name value : List ℕ) → HasNoEquals name →
    (pair_name (45 ∷ 45 ∷ (name ++ 61 ∷ value)) ≡ None) × (with_lone said (45 ∷ 45 ∷ (name ++ 61 ∷ value)) ≡ with_option said name value)
unfolding pair_name with_lone
whole_word said name value h = (ap (unless_split (name ++ 61 ∷ value)) (split_some name value h), ap (with_split said) (split_some name value h))

-- what is read of words, and the things that they say with it
record Reads (words : List (List ℕ)) (said s : Settings) : Type 0 where
  pub sayings : List Saying
  pub say : Say words sayings
  pub all : with_all said sayings ≡ Some s

-- what a word is
pub data WordIs (word : List ℕ) : Type 0 where
  IsName : behind_dashes word ≡ None → WordIs word
  IsOpen : (name : List ℕ) → word ≡ 45 ∷ 45 ∷ name → HasNoEquals name → WordIs word
  IsWhole : (name value : List ℕ) → word ≡ 45 ∷ 45 ∷ (name ++ 61 ∷ value) → HasNoEquals name → WordIs word

pub word_is : (word : List ℕ) → WordIs word
word_is word = elim (dashes word) [
  | inl none ↦ IsName none
  | inr d ↦ elim (parts d.0) [
    | inl h ↦ IsOpen d.0 d.1 h
    | inr p ↦ IsWhole p.0 p.1 (d.1 ∙ ap (λ xs. 45 ∷ 45 ∷ xs) p.2) p.3
  ]
]

-- one thing said in front of more
named_first : (said t s : Settings) (word : List ℕ) (more : List (List ℕ)) → behind_dashes word ≡ None → with_kind said word ≡ Some t → Reads more t s → Reads (word ∷ more) said s
named_first said t s word more none is h = record {
  sayings = Named word ∷ h.sayings;
  say = (more, refl, none, h.say);
  all = binding (with_kind said word) (λ x. with_all x h.sayings) t s is h.all;
}

valued_first : (said t s : Settings) (name value : List ℕ) (words more : List (List ℕ)) → IsOption name value words more → with_option said name value ≡ Some t → Reads more t s → Reads words said s
valued_first said t s name value words more option is h = record {
  sayings = Valued name value ∷ h.sayings;
  say = (more, option, h.say);
  all = binding (with_option said name value) (λ x. with_all x h.sayings) t s is h.all;
}

-- a word that says something by itself, in front of more
lone_first : (said s : Settings) (word : List ℕ) (more : List (List ℕ)) → WordIs word → pair_name word ≡ None → (t : Settings) → with_lone said word ≡ Some t → Reads more t s → Reads (word ∷ more) said s
lone_first said s word more (IsName none) alone t is h = named_first said t s word more none (sym (named_word said word none).1 ∙ is) h
lone_first said s word more (IsOpen name e free) alone t is h = let pair = sym (open_word name free) ∙ ap pair_name (sym e) ∙ alone in absurd (cc)
lone_first said s word more (IsWhole name value e free) alone t is h =
    valued_first said t s name value (word ∷ more) more (free, inl (ap (λ w. w ∷ more) e)) (sym (whole_word said name value free).1 ∙ ap (with_lone said) (sym e) ∙ is) h

-- two words, the name of an option and its value
pair_first : (said s : Settings) (word value : List ℕ) (more : List (List ℕ)) → WordIs word → (name : List ℕ) → pair_name word ≡ Some name → (t : Settings) → with_option said name value ≡ Some t → Reads more t s → Reads (word ∷ value ∷ more) said s
pair_first said s word value more (IsName none) name pair t is h = let alone = sym (named_word said word none).0 ∙ pair in absurd (cc)
pair_first said s word value more (IsOpen n e free) name pair t is h =
    let same : Some n ≡ Some name = sym (open_word n free) ∙ ap pair_name (sym e) ∙ pair in
    let name_is : name ≡ n = cc in
    valued_first said t s n value (word ∷ value ∷ more) more (free, inr (ap (λ w. w ∷ value ∷ more) e)) (ap (λ x. with_option said x value) (sym name_is) ∙ is) h
pair_first said s word value more (IsWhole n v e free) name pair t is h =
    let alone = sym (whole_word said n v free).0 ∙ ap pair_name (sym e) ∙ pair in absurd (cc)

-- by what a word by itself is
read_last : (said s : Settings) (word : List ℕ) (name : Option (List ℕ)) → pair_name word ≡ name → with_last said word name ≡ Some s → Reads (word ∷ []) said s
read_last said s word None alone h =
    let b = bound_is (with_lone said word) (λ t. Some t) s h in
    lone_first said s word [] (word_is word) alone b.0 b.1 (record { sayings = []; say = refl; all = b.2 })
read_last said s word (Some name) alone h = absurd (cc)

read_two : (said s : Settings) (word value : List ℕ) (words : List (List ℕ)) (name : Option (List ℕ)) → pair_name word ≡ name →
    after_two name (with_lone said word >>= λ t. settings_from t (value ∷ words)) (λ n. with_option said n value >>= λ t. settings_from t words) ≡ Some s →
    ((t : Settings) → settings_from t (value ∷ words) ≡ Some s → Reads (value ∷ words) t s) → ((t : Settings) → settings_from t words ≡ Some s → Reads words t s) →
    Reads (word ∷ value ∷ words) said s
read_two said s word value words None alone h after_one after_both =
    let b = bound_is (with_lone said word) (λ t. settings_from t (value ∷ words)) s h in
    lone_first said s word (value ∷ words) (word_is word) alone b.0 b.1 (after_one b.0 b.2)
read_two said s word value words (Some name) pair h after_one after_both =
    let b = bound_is (with_option said name value) (λ t. settings_from t words) s h in
    pair_first said s word value words (word_is word) name pair b.0 b.1 (after_both b.0 b.2)

read_all : (s : Settings) (words : List (List ℕ)) (said : Settings) → settings_from said words ≡ Some s → Reads words said s
unfolding settings_from
read_all s [] said h = record { sayings = []; say = refl; all = h }
read_all s (word ∷ []) said h = read_last said s word (pair_name word) refl h
read_all s (word ∷ value ∷ words) said h = read_two said s word value words (pair_name word) refl h (read_all s (value ∷ words)) (read_all s words)

pub read_is_said : (words : List (List ℕ)) (said s : Settings) → settings_from said words ≡ Some s → AreSaid words said s
read_is_said words said s h =
    let r = read_all s words said h in
    record { sayings = r.sayings; said = r.say; settings = all_are_settings said s r.sayings r.all }

-- the words that say these things are read as what they give
all_is_read : (s : Settings) (sayings : List Saying) (said : Settings) (words : List (List ℕ)) → Say words sayings → with_all said sayings ≡ Some s → settings_from said words ≡ Some s
unfolding settings_from
all_is_read s [] said words say h = ap (settings_from said) say ∙ h
all_is_read s (Named word ∷ sayings) said words say h =
    let b = bound_is (with_kind said word) (λ t. with_all t sayings) s h in
    let w = named_word said word say.2 in
    ap (settings_from said) say.1 ∙ lone_step said b.0 word say.0 w.0 (w.1 ∙ b.1) ∙ all_is_read s sayings b.0 say.0 say.3 b.2
all_is_read s (Valued name value ∷ sayings) said words say h =
    let b = bound_is (with_option said name value) (λ t. with_all t sayings) s h in
    let rest = all_is_read s sayings b.0 say.0 say.2 b.2 in
    let w = whole_word said name value say.1.0 in
    elim say.1.1 [
      | inl e ↦ ap (settings_from said) e ∙ lone_step said b.0 (45 ∷ 45 ∷ (name ++ 61 ∷ value)) say.0 w.0 (w.1 ∙ b.1) ∙ rest
      | inr e ↦ ap (settings_from said) e ∙ pair_step said b.0 (45 ∷ 45 ∷ name) value name say.0 (open_word name say.1.0) b.1 ∙ rest
    ]

pub said_is_read : (words : List (List ℕ)) (said s : Settings) → AreSaid words said s → settings_from said words ≡ Some s
said_is_read words said s a = all_is_read s a.sayings said words a.said (settings_are_all said s a.sayings a.settings)
