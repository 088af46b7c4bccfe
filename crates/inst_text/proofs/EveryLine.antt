-- Lines that are read up to the end of the text: what each of them reads as.
use Rattle.std.proofs.Common.{◌≡◌, ℕ, List, [], ◌∷◌, Result, Ok, Err, refl, ap, subst}
use Rattle.pq_io.specs.declared.text.fault.Cause.{Cause}
use Rattle.pq_io.specs.declared.text.fault.BadInput.{BadInput}
use Rattle.pq_io.specs.Lines.{Line, Text}
use Rattle.pq_io.specs.Reading.{◌>>=◌, Read, on_line, first_line, next_line}
use Rattle.pq_io.proofs.Binds.{ok_is, bind_ok}
use Rattle.inst_text.specs.Several.{every_line}
use Rattle.inst_text.proofs.OneByOne.{EachReads}

pub on_line_ok : {A : Type 0} (n : ℕ) (r : Result A Cause) (x : A) → on_line n r ≡ Ok x → r ≡ Ok x
on_line_ok n (Ok y) x e = cc
on_line_ok n (Err c) x e = absurd cc

pub every_taken : {S A : Type 0} (read : S → List (List ℕ) → Result A Cause) (next : S → A → S) (s : S) (ls : List Line) (xs : List A)
    → every_line read next s ls ≡ Ok xs → EachReads read next s ls xs
unfolding every_line
every_taken read next s [] xs e = subst (EachReads read next s []) (ok_is [] xs e) tt
every_taken {A = A} read next s (l ∷ ls) xs e =
    let p = bind_ok (on_line l.number (read s l.words)) (λ x. every_line read next (next s x) ls >>= λ ys. Ok (x ∷ ys)) xs e in
    let q = bind_ok (every_line read next (next s p.0) ls) (λ ys. Ok (p.0 ∷ ys)) xs p.2 in
    subst (EachReads read next s (l ∷ ls)) (ok_is (p.0 ∷ q.0) xs q.2)
    (on_line_ok l.number (read s l.words) p.0 p.1, every_taken read next (next s p.0) ls q.0 q.1)

pub every_found : {S A : Type 0} (read : S → List (List ℕ) → Result A Cause) (next : S → A → S) (s : S) (ls : List Line) (xs : List A)
    → EachReads read next s ls xs → every_line read next s ls ≡ Ok xs
unfolding every_line
every_found read next s [] [] each = refl
every_found read next s [] (x ∷ xs) each = absurd each
every_found read next s (l ∷ ls) [] each = absurd each
every_found read next s (l ∷ ls) (x ∷ xs) each = rw (each.0, every_found read next (next s x) ls xs each.1) refl

-- the next line of a text, and the end of it

first_came : (ls : List Line) (end : ℕ) (l : Line) (after : Text) → first_line ls end ≡ Ok (record { value = l; rest = after }) → ls ≡ l ∷ after.lines
first_came [] end l after e = absurd cc
first_came (k ∷ ks) end l after e =
    let rest : Text = record { lines = ks; end = end } in
    let same = ok_is {A = Read Line Text} (record { value = k; rest = rest }) (record { value = l; rest = after }) e in
    ap (λ (x : Read Line Text). x.value ∷ x.rest.lines) same

pub line_came : (text : Text) (l : Line) (after : Text) → next_line text ≡ Ok (record { value = l; rest = after }) → text.lines ≡ l ∷ after.lines
unfolding next_line
line_came text l after e = first_came text.lines text.end l after e

no_first : (ls : List Line) (end : ℕ) (fault : BadInput) → first_line ls end ≡ Err fault → ls ≡ []
no_first [] end fault e = refl
no_first (k ∷ ks) end fault e = absurd cc

pub no_line : (text : Text) (fault : BadInput) → next_line text ≡ Err fault → text.lines ≡ []
unfolding next_line
no_line text fault e = no_first text.lines text.end fault e
