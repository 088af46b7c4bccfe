-- A text on its way to a sink, from its beginning to its end or to a failed write.
use Rattle.std.proofs.Common.{◌≡◌, ℕ, suc, ◌+◌, ◌<◌, ◌≤◌, List, [], ◌∷◌, ◌++◌, length, get_or, take, drop, Option, None, Some, refl, sym, ap, ◌∙◌, arith, append_assoc, add-one, drop-cons, length-append}
use Rattle.std.specs.Prelude.{IfSome, OnOk, OnErr, Result, Ok, Err}
use Rattle.std.proofs.Math.Seq.{take-append-add}
use Rattle.std.proofs.lemmas.List.{append-nil, take-append-le, drop_all}
use Rattle.pq_io.specs.Gathering.{WritesPrefix}
use Rattle.pq_io.specs.Writing.{words_text, lines_text}
use Rattle.pq_model.specs.declared.marks.Mark.{Mark}
use Rattle.pq_tape.specs.HistoryText.{mark_words, marks_lines}
use Rattle.pq_tape.specs.Pending.{Pending}

-- as many bytes from the front as a first part has, and some of a second
take_behind : (xs ys zs : List ℕ) (n : ℕ) → n ≤ length ys → take (length xs + n) (xs ++ (ys ++ zs)) ≡ xs ++ take n ys
take_behind xs ys zs n le = take-append-add xs (ys ++ zs) n ∙ ap (λ (t : List ℕ). xs ++ t) (take-append-le n ys zs le)

pub starts : (first : Option (List ℕ)) (unsent rest whole : List ℕ) → unsent ++ rest ≡ whole → IfSome first (λ before. Pending unsent rest whole first before)
starts None unsent rest whole e = tt
starts (Some b) unsent rest whole e = record { done = []; written = ap (λ (t : List ℕ). Some t) (sym (append-nil b)); parts = e }

-- a line that was to come is held back
pub grows : (first mid : Option (List ℕ)) (unsent line rest unsent' rest' whole : List ℕ) → rest ≡ line ++ rest' → unsent' ≡ unsent ++ line
    → IfSome first (λ before. Pending unsent rest whole mid before) → IfSome first (λ before. Pending unsent' rest' whole mid before)
grows None mid unsent line rest unsent' rest' whole e f p = tt
grows (Some b) mid unsent line rest unsent' rest' whole e f p = record {
  done = p.done;
  written = p.written;
  parts = ap (λ (t : List ℕ). p.done ++ t) (rw (e, f) (simp append_assoc)) ∙ p.parts;
}

-- the last that was held back is written
pub ends : (first mid last : Option (List ℕ)) (unsent whole : List ℕ) → IfSome first (λ before. Pending unsent [] whole mid before) → IfSome mid (λ written. last ≡ Some (written ++ unsent)) → IfSome first (λ before. last ≡ Some (before ++ whole))
ends None mid last unsent whole p q = tt
ends (Some b) mid last unsent whole p q =
    let now : last ≡ Some ((b ++ p.done) ++ unsent) = (rw p.written at q) in
    let parts : p.done ++ unsent ≡ whole = ap (λ (t : List ℕ). p.done ++ t) (sym (append-nil unsent)) ∙ p.parts in
    now ∙ ap (λ (t : List ℕ). Some t) (rw (append_assoc, parts) refl)

-- a write of what was held back failed: a front of the whole is written
pub fails : (first mid last : Option (List ℕ)) (unsent rest whole : List ℕ) → IfSome first (λ before. Pending unsent rest whole mid before) → IfSome mid (λ written. WritesPrefix written unsent last) → IfSome first (λ before. WritesPrefix before whole last)
fails None mid last unsent rest whole p q = tt
fails (Some b) mid last unsent rest whole p q =
    let w : WritesPrefix (b ++ p.done) unsent last = (rw p.written at q) in
    let le : w.count ≤ length unsent = omega (arith, w.short) in
    let cut : take (length p.done + w.count) (p.done ++ (unsent ++ rest)) ≡ p.done ++ take w.count unsent = take_behind p.done unsent rest w.count le in
    record {
      count = length p.done + w.count;
      short = (let e = ap (λ (t : List ℕ). length t) p.parts in omega (arith, e, w.short, length-append p.done (unsent ++ rest), length-append unsent rest));
      prefix = w.prefix ∙ ap (λ (t : List ℕ). Some t) (append_assoc b p.done (take w.count unsent) ∙ ap (λ (t : List ℕ). b ++ t) (sym cut ∙ ap (λ (t : List ℕ). take (length p.done + w.count) t) p.parts));
    }

-- the line of the next mark stands in front of the lines of the others
pub next_mark : (ms : List Mark) (i : ℕ) (m : Mark) (tail : List (List (List ℕ))) → i < length ms → m ≡ get_or ms i m
    → lines_text (marks_lines i (drop i ms) ++ tail) ≡ (words_text (mark_words i m) ++ 10 ∷ []) ++ lines_text (marks_lines (i + 1) (drop (i + 1) ms) ++ tail)
next_mark ms i m tail lt is =
    let e : drop i ms ≡ m ∷ drop (i + 1) ms = rw add-one (drop-cons ms i m lt ∙ ap (λ (x : Mark). x ∷ drop (suc i) ms) (sym is)) in
    ap (λ (t : List Mark). lines_text (marks_lines i t ++ tail)) e ∙ sym (append_assoc (words_text (mark_words i m)) (10 ∷ []) (lines_text (marks_lines (i + 1) (drop (i + 1) ms) ++ tail)))

-- behind the last mark stands the last line alone
pub last_line : (ms : List Mark) (i : ℕ) (last : List (List ℕ)) → length ms ≤ i → lines_text (marks_lines i (drop i ms) ++ last ∷ []) ≡ words_text last ++ 10 ∷ []
last_line ms i last le = ap (λ (t : List Mark). lines_text (marks_lines i t ++ last ∷ [])) (drop_all i ms le)

-- clauses on a result

pub err_with : {A E P : Type 0} (r : Result A E) → P → OnErr r P
err_with (Ok x) p = tt
err_with (Err e) p = p

pub err_so : {A E P Q : Type 0} (r : Result A E) → (P → Q) → OnErr r P → OnErr r Q
err_so (Ok x) f p = tt
err_so (Err e) f p = f p

pub ok_so : {A E P Q : Type 0} (r : Result A E) → (P → Q) → OnOk r P → OnOk r Q
ok_so (Ok x) f p = f p
ok_so (Err e) f p = tt
