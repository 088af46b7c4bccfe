-- Texts that are written piece by piece.
use Rattle.std.proofs.Common.{◌≡◌, ℕ, ◌+◌, ◌<◌, ◌≤◌, List, [], ◌∷◌, ◌++◌, length, get_or, take, map, codes, decimal, refl, sym, ap, ◌∙◌}
use Rattle.std.specs.List.{flat_map}
use Rattle.std.proofs.lemmas.List.{append_assoc, append-nil, flat_map_more, map_more, take_all, take_more}
use Rattle.pq_io.specs.Writing.{words_text, lines_text}
use Rattle.inst_text.specs.declared.shop.Operation.{Operation}
use Rattle.inst_text.specs.Knapsack.{two_words, choice_text}
use Rattle.inst_text.specs.Shop.{row_words}
use Rattle.inst_text.proofs.Written.{lines_text-append}

abbrev pub spaced : List ℕ → List ℕ
spaced ns = flat_map (λ n. 32 ∷ decimal n) ns

-- numbers behind a word
pub spaced_words : (w : List ℕ) (ns : List ℕ) → words_text (w ∷ map decimal ns) ≡ w ++ spaced ns
spaced_words w [] = sym (append-nil w)
spaced_words w (n ∷ ns) = ap (λ (t : List ℕ). w ++ 32 ∷ t) (spaced_words (decimal n) ns)

-- the first number of a row, and then the others, each behind a blank
pub times_written : (text : List ℕ) (row : List ℕ) (first : ℕ) (others : List ℕ) → row ≡ first ∷ others → (text ++ decimal first) ++ spaced others ≡ text ++ words_text (map decimal row)
times_written text row first others is =
    append_assoc text (decimal first) (spaced others)
    ∙ ap (λ (t : List ℕ). text ++ t) (sym (spaced_words (decimal first) others) ∙ ap (λ (r : List ℕ). words_text (map decimal r)) (sym is))

regrouped : (a b c d : List ℕ) → ((a ++ b) ++ c) ++ d ≡ a ++ (b ++ (c ++ d))
regrouped a b c d = simp append_assoc

pub choice_written : (value : ℕ) (ns : List ℕ) → (codes "value " ++ decimal value ++ codes "\nitems" ++ spaced ns) ++ 10 ∷ [] ≡ choice_text value ns
choice_written value ns =
    ap (λ (t : List ℕ). codes "value " ++ t) (regrouped (decimal value) (codes "\nitems") (spaced ns) (10 ∷ []))
    ∙ ap (λ (t : List ℕ). (codes "value" ++ 32 ∷ decimal value) ++ 10 ∷ (t ++ 10 ∷ [])) (sym (spaced_words (codes "items") ns))

-- lines, one after the other behind a first one

-- one line more
pub line_written : {X : Type 0} (line_of : X → List (List ℕ)) (first : List (List ℕ)) (xs : List X) (i : ℕ) (d x : X) (text before : List ℕ) → i < length xs → x ≡ get_or xs i d
    → text ≡ before ++ (words_text (line_of x) ++ 10 ∷ []) → before ≡ lines_text (first ∷ map line_of (take i xs)) → text ≡ lines_text (first ∷ map line_of (take (i + 1) xs))
line_written {X = X} line_of first xs i d x text before lt at grown so_far =
    grown
    ∙ ap (λ (t : List ℕ). t ++ (words_text (line_of x) ++ 10 ∷ [])) so_far
    ∙ ap (λ (y : X). lines_text (first ∷ map line_of (take i xs)) ++ (words_text (line_of y) ++ 10 ∷ [])) at
    ∙ sym (lines_text-append (first ∷ map line_of (take i xs)) (line_of (get_or xs i d) ∷ []))
    ∙ ap (λ (ls : List (List (List ℕ))). lines_text (first ∷ ls)) (sym (map_more line_of xs i d lt))

-- every line
pub lines_written : {X : Type 0} (line_of : X → List (List ℕ)) (first : List (List ℕ)) (xs : List X) (i : ℕ) (text : List ℕ) → length xs ≤ i
    → text ≡ lines_text (first ∷ map line_of (take i xs)) → text ≡ lines_text (first ∷ map line_of xs)
lines_written {X = X} line_of first xs i text le so_far = so_far ∙ ap (λ (ys : List X). lines_text (first ∷ map line_of ys)) (take_all i xs le)

-- each value by way of another
pub map_twice : {A B C : Type 0} (f : A → B) (g : B → C) (xs : List A) → map (λ x. g (f x)) xs ≡ map g (map f xs)
map_twice f g [] = refl
map_twice {C = C} f g (x ∷ xs) = ap (λ (ys : List C). g (f x) ∷ ys) (map_twice f g xs)

-- operations

abbrev pub spaced_operations : List Operation → List ℕ
spaced_operations os = flat_map (λ o. 32 ∷ words_text (two_words o.machine o.time)) os

pub operations_written : (first : Operation) (others : List Operation) → words_text (row_words (first ∷ others)) ≡ words_text (two_words first.machine first.time) ++ spaced_operations others
operations_written first [] = sym (append-nil (words_text (two_words first.machine first.time)))
operations_written first (o ∷ os) =
    ap (λ (t : List ℕ). decimal first.machine ++ (32 ∷ (decimal first.time ++ (32 ∷ t)))) (operations_written o os)
    ∙ sym (append_assoc (decimal first.machine) (32 ∷ decimal first.time) (32 ∷ (words_text (two_words o.machine o.time) ++ spaced_operations os)))

-- one operation more
pub operation_written : (xs : List Operation) (i : ℕ) (d : Operation) (start text blank now : List ℕ) → i < length xs → now ≡ blank ++ words_text (two_words (get_or xs i d).machine (get_or xs i d).time)
    → blank ≡ text ++ 32 ∷ [] → text ≡ start ++ spaced_operations (take i xs) → now ≡ start ++ spaced_operations (take (i + 1) xs)
operation_written xs i d start text blank now lt grown spaced so_far =
    let o = get_or xs i d in
    let piece = words_text (two_words o.machine o.time) in
    grown
    ∙ ap (λ (t : List ℕ). t ++ piece) spaced
    ∙ append_assoc text (32 ∷ []) piece
    ∙ ap (λ (t : List ℕ). t ++ (32 ∷ piece)) so_far
    ∙ flat_map_more (λ (p : Operation). 32 ∷ words_text (two_words p.machine p.time)) start (take i xs) o
    ∙ ap (λ (ys : List Operation). start ++ spaced_operations ys) (sym (take_more xs i d lt))

-- every operation
pub all_operations_written : (row : List Operation) (first : Operation) (others : List Operation) (i : ℕ) (start begun text : List ℕ) → row ≡ first ∷ others → length others ≤ i
    → begun ≡ start ++ words_text (two_words first.machine first.time) → text ≡ begun ++ spaced_operations (take i others) → text ≡ start ++ words_text (row_words row)
all_operations_written row first others i start begun text is le begin so_far =
    so_far
    ∙ ap (λ (ys : List Operation). begun ++ spaced_operations ys) (take_all i others le)
    ∙ ap (λ (t : List ℕ). t ++ spaced_operations others) begin
    ∙ append_assoc start (words_text (two_words first.machine first.time)) (spaced_operations others)
    ∙ ap (λ (t : List ℕ). start ++ t) (sym (operations_written first others))
    ∙ ap (λ (r : List Operation). start ++ words_text (row_words r)) (sym is)
