-- Decisions as the bits of words.
use Rattle.std.proofs.Common.{◌≡◌, ℕ, Bool, true, false, cond, zero, suc, ◌+◌, ◌-◌, ◌*◌, ◌/◌, ◌%◌, ◌^◌, ◌<◌, ◌≤◌, List, [], ◌∷◌, ◌++◌, inl, inr, refl, sym, ap, ◌∙◌, length, get_or, arith}
use Rattle.std.proofs.lemmas.Bool.{cases_lt}
use Rattle.std.proofs.lemmas.List.{append_assoc, append-nil, length_push, length-append, get_or_append_left, get_or-append-add, get_or_push, get_or-append_right}
use Rattle.std.proofs.lemmas.Nat.{div-mul-add, mod-mul-add, shr-shr, pow-add, pow_below, pow_pos}
use mir.Val.{bool_byte}
use Rattle.bb_knap.specs.Decisions.{word_bits, all_bits}

pub length-word_bits : (n word : ℕ) → length (word_bits n word) ≡ n
unfolding word_bits
length-word_bits zero word = refl
length-word_bits (suc n) word = omega (arith, length_push (word_bits n (word / 2)) (word % 2), length-word_bits n (word / 2))

pub length-all_bits : (ws : List ℕ) → length (all_bits ws) ≡ 64 * length ws
unfolding all_bits
length-all_bits [] = refl
length-all_bits (w ∷ ws) = omega (arith, length-append (word_bits 64 w) (all_bits ws), length-word_bits 64 w, length-all_bits ws)

-- how many decisions there are
pub length-bits : (ws : List ℕ) (count last : ℕ) → length ws ≡ count / 64 → length (all_bits ws ++ word_bits (count % 64) last) ≡ count
length-bits ws count last e =
    omega (arith, length-append (all_bits ws) (word_bits (count % 64) last), length-all_bits ws, length-word_bits (count % 64) last, e)

-- one bit more in a word
pub word_bits-push : (n word bit : ℕ) → bit < 2 → word_bits (suc n) (word * 2 + bit) ≡ word_bits n word ++ bit ∷ []
unfolding word_bits
word_bits-push n word bit lt = rw (div-mul-add word 2 bit lt, mod-mul-add word 2 bit lt) refl

pub word_bits-none : (word : ℕ) → word_bits 0 word ≡ []
unfolding word_bits
word_bits-none word = refl

-- one word more
pub all_bits-push : (ws : List ℕ) (w : ℕ) → all_bits (ws ++ w ∷ []) ≡ all_bits ws ++ word_bits 64 w
unfolding all_bits
all_bits-push [] w = append-nil (word_bits 64 w)
all_bits-push (v ∷ ws) w = ap (λ xs. word_bits 64 v ++ xs) (all_bits-push ws w) ∙ sym (append_assoc (word_bits 64 v) (all_bits ws) (word_bits 64 w))

pub pow-le : (i j : ℕ) → i ≤ j → 2 ^ i ≤ 2 ^ j
pow-le i j le = elim (cases_lt i j) [
  | inl lt ↦ omega (arith, pow_below i j lt)
  | inr ge ↦ let e : i ≡ j = omega (arith, le, ge) in omega (arith, ap (λ n. 2 ^ n) e)
]

pub pow-more : (n : ℕ) → 2 ^ (n + 1) ≡ 2 ^ n * 2
pow-more n = pow-add 2 n 1

-- a bit of a word, from the highest on
pub get_or-word_bits : (n word j d : ℕ) → j < n → get_or (word_bits n word) j d ≡ word / 2 ^ (n - 1 - j) % 2
unfolding word_bits
get_or-word_bits zero word j d lt = absurd (omega arith)
get_or-word_bits (suc n) word j d lt =
    elim (cases_lt j n) [
      | inl inner ↦
          let e : suc n - 1 - j ≡ 1 + (n - 1 - j) = omega (arith, inner) in
          get_or_append_left (word_bits n (word / 2)) (word % 2 ∷ []) d j (omega (arith, inner, length-word_bits n (word / 2)))
          ∙ get_or-word_bits n (word / 2) j d inner
          ∙ ap (λ m. m % 2) (shr-shr word 1 (n - 1 - j) ∙ ap (λ k. word / 2 ^ k) (sym e))
      | inr last ↦
          let e : suc n - 1 - j ≡ 0 = omega (arith, lt, last) in
          let at : j ≡ length (word_bits n (word / 2)) = omega (arith, lt, last, length-word_bits n (word / 2)) in
          rw e (get_or_push (word_bits n (word / 2)) (word % 2) d j (sym at) ∙ omega arith)
    ]

-- a bit of the full words
pub get_or-all_bits : (ws : List ℕ) (q r d : ℕ) → q < length ws → r < 64 → get_or (all_bits ws) (64 * q + r) d ≡ get_or (word_bits 64 (get_or ws q 0)) r d
unfolding all_bits
get_or-all_bits [] q r d inside lt = absurd (omega arith)
get_or-all_bits (w ∷ ws) zero r d inside lt =
    get_or_append_left (word_bits 64 w) (all_bits ws) d (64 * zero + r) (omega (arith, lt, length-word_bits 64 w)) ∙ ap (λ k. get_or (word_bits 64 w) k d) (omega arith)
get_or-all_bits (w ∷ ws) (suc q) r d inside lt =
    let e : 64 * suc q + r ≡ length (word_bits 64 w) + (64 * q + r) = omega (arith, length-word_bits 64 w) in
    ap (λ k. get_or (word_bits 64 w ++ all_bits ws) k d) e ∙ get_or-append-add (word_bits 64 w) (all_bits ws) (64 * q + r) d ∙ get_or-all_bits ws q r d (omega (arith, inside)) lt

-- a test as a bit
pub bool_byte-cond : (b : Bool) → bool_byte b ≡ cond b 1 0
bool_byte-cond true = refl
bool_byte-cond false = refl

cond-lt : (b : Bool) → cond b 1 0 < 2
cond-lt true = omega arith
cond-lt false = omega arith

pub bool_byte-lt : (b : Bool) → bool_byte b < 2
bool_byte-lt b = rw (bool_byte-cond b) (cond-lt b)

-- no decisions
pub bits-none : (ws : List ℕ) → ws ≡ [] → all_bits ws ++ word_bits 0 0 ≡ []
unfolding all_bits word_bits
bits-none ws e = rw e refl

-- a decision more in the last word
pub last-pushed : (count last bit : ℕ) → last < 2 ^ (count % 64) → count % 64 < 63 → bit < 2 → last * 2 + bit < 2 ^ ((count + 1) % 64)
last-pushed count last bit within inner lt =
    let e : (count + 1) % 64 ≡ count % 64 + 1 = omega (arith, inner) in
    rw e (omega (arith, pow-more (count % 64), within, lt))

pub none-last : (count : ℕ) → 0 < 2 ^ ((count + 1) % 64)
none-last count = pow_pos ((count + 1) % 64)

pub bits-pushed : (ws : List ℕ) (count last bit : ℕ) → bit < 2 → count % 64 < 63 → all_bits ws ++ word_bits ((count + 1) % 64) (last * 2 + bit) ≡ (all_bits ws ++ word_bits (count % 64) last) ++ bit ∷ []
bits-pushed ws count last bit lt inner =
    let e : (count + 1) % 64 ≡ suc (count % 64) = omega (arith, inner) in
    rw e (ap (λ xs. all_bits ws ++ xs) (word_bits-push (count % 64) last bit lt) ∙ sym (append_assoc (all_bits ws) (word_bits (count % 64) last) (bit ∷ [])))

-- a decision more that fills the last word
pub bits-full : (ws new : List ℕ) (count last bit : ℕ) → new ≡ ws ++ (last * 2 + bit) ∷ [] → bit < 2 → 63 ≤ count % 64 → all_bits new ++ word_bits ((count + 1) % 64) 0 ≡ (all_bits ws ++ word_bits (count % 64) last) ++ bit ∷ []
bits-full ws new count last bit is lt full =
    let e : (count + 1) % 64 ≡ 0 = omega (arith, full) in
    let f : count % 64 ≡ 63 = omega (arith, full) in
    let word : word_bits 64 (last * 2 + bit) ≡ word_bits 63 last ++ bit ∷ [] = word_bits-push 63 last bit lt in
    rw (e, f)
    (ap (λ xs. all_bits new ++ xs) (word_bits-none 0) ∙ append-nil (all_bits new) ∙ ap all_bits is ∙ all_bits-push ws (last * 2 + bit)
    ∙ ap (λ xs. all_bits ws ++ xs) word ∙ sym (append_assoc (all_bits ws) (word_bits 63 last) (bit ∷ [])))

-- a decision in a full word
pub bit-full : (ws : List ℕ) (count last place : ℕ) → place / 64 < length ws → get_or (all_bits ws ++ word_bits (count % 64) last) place 0 ≡ get_or ws (place / 64) 0 / 2 ^ (63 - place % 64) % 2
bit-full ws count last place inside =
    let e : place ≡ 64 * (place / 64) + place % 64 = omega arith in
    get_or_append_left (all_bits ws) (word_bits (count % 64) last) 0 place (omega (arith, length-all_bits ws, inside))
    ∙ ap (λ k. get_or (all_bits ws) k 0) e
    ∙ get_or-all_bits ws (place / 64) (place % 64) 0 inside (omega arith)
    ∙ get_or-word_bits 64 (get_or ws (place / 64) 0) (place % 64) 0 (omega arith)

-- a decision in the last word
pub bit-last : (ws : List ℕ) (count last place : ℕ) → length ws ≡ count / 64 → length ws ≤ place / 64 → place < count → get_or (all_bits ws ++ word_bits (count % 64) last) place 0 ≡ last / 2 ^ (count % 64 - 1 - place % 64) % 2
bit-last ws count last place words past inside =
    let e : place - 64 * length ws ≡ place % 64 = omega (arith, words, past, inside) in
    get_or-append_right (all_bits ws) (word_bits (count % 64) last) (64 * length ws) place 0 (length-all_bits ws) (omega (arith, past))
    ∙ ap (λ k. get_or (word_bits (count % 64) last) k 0) e
    ∙ get_or-word_bits (count % 64) last (place % 64) 0 (omega (arith, words, past, inside))
