-- The lines of a script that were read, and those that are found where they are spelled.
use Rattle.std.proofs.Common.{◌≡◌, ℕ, ◌<◌, cond, ltb, List, [], ◌∷◌, codes, Result, Ok, Err, refl, sym, ap, subst, ◌∙◌, arith, inl, inr}
use Rattle.std.proofs.lemmas.Bool.{cases_Bool, ltb-true, lt-ltb}
use Rattle.std.specs.Str.{bytes_eq}
use Rattle.pq_io.specs.declared.text.fault.Cause.{Cause}
use Rattle.pq_io.specs.declared.text.fault.Cause.TheVariants.{Range, Extra}
use Rattle.pq_io.specs.Reading.{◌>>=◌, number_at, word_at, at_line_end, on_line}
use Rattle.pq_io.proofs.Binds.{ok_is, bind_ok, cond_ok, guard_ok}
use Rattle.pq_io.proofs.Taken.{number_taken, number_found, same_word, line_ends, end_found}
use Rattle.pq_model.specs.declared.marks.Act.TheVariants.{Insert, Remove, RemoveBelow}
use Rattle.inst_text.specs.declared.script.lines.ScriptLine.{ScriptLine}
use Rattle.inst_text.specs.declared.script.lines.ScriptLine.TheVariants.{Command, NextLane}
use Rattle.pq_words.specs.Limits.{key_limit}
use Rattle.pq_model.specs.EntryWords.{entry_at}
use Rattle.pq_model.proofs.EntryWords.{entry_taken, entry_found}
use Rattle.inst_text.specs.Limits.{max_commands}
use Rattle.inst_text.specs.Script.{Counted, IsCommand, SpellsCommand, room_for, insert_of, remove_of, remove_below_of, lane_of, script_line_of}
use Rattle.inst_text.proofs.EveryLine.{on_line_ok}

abbrev Words : Type 0
Words = List (List ℕ)

-- what a line says
abbrev pub Says : Words → ScriptLine → Type 0
Says words (Command act) = SpellsCommand words act
Says words NextLane = words ≡ codes "lane" ∷ []

-- what may follow so many commands and lanes
abbrev pub Allows : ℕ → Counted → ScriptLine → Type 0
Allows allowed c (Command act) = (c.commands < max_commands) × IsCommand act
Allows allowed c NextLane = c.lanes < allowed

pub record LineTaken (allowed : ℕ) (c : Counted) (words : Words) (x : ScriptLine) : Type 0 where
  pub says : Says words x
  pub allows : Allows allowed c x

room_taken : (n : ℕ) (u : Unit {0}) → room_for n ≡ Ok u → n < max_commands
unfolding room_for
room_taken n u e = ltb-true n max_commands (guard_ok (ltb n max_commands) tt u Extra e).0

room_found : (n : ℕ) → n < max_commands → room_for n ≡ Ok tt
unfolding room_for
room_found n lt = ap (λ b. cond b (Ok tt) (Err Extra)) (lt-ltb n max_commands lt)

-- behind each first word

insert_taken : (allowed : ℕ) (c : Counted) (ws : Words) (x : ScriptLine) → insert_of c.commands ws ≡ Ok x → LineTaken allowed c (codes "+" ∷ ws) x
unfolding insert_of
insert_taken allowed c ws x e =
    let r = bind_ok (room_for c.commands) (λ room. entry_at ws >>= λ entry. at_line_end entry.rest >>= λ end. Ok (Command (Insert entry.value))) x e in
    let n = bind_ok (entry_at ws) (λ entry. at_line_end entry.rest >>= λ end. Ok (Command (Insert entry.value))) x r.2 in
    let z = bind_ok (at_line_end n.0.rest) (λ end. Ok (Command (Insert n.0.value))) x n.2 in
    let t = entry_taken ws n.0 n.1 in
    let whole : t.key ∷ t.id ∷ [] ≡ ws = sym (t.first ∙ ap (λ (r : Words). t.key ∷ t.id ∷ r) (line_ends n.0.rest z.0 z.1)) in
    let here : SpellsCommand (codes "+" ∷ t.key ∷ t.id ∷ []) (Insert n.0.value) = (refl, t.spells_key, t.spells_id) in
    subst (λ (y : ScriptLine). LineTaken allowed c (codes "+" ∷ ws) y) (ok_is (Command (Insert n.0.value)) x z.2)
    (record {
      says = subst (λ (r : Words). SpellsCommand (codes "+" ∷ r) (Insert n.0.value)) whole here;
      allows = (room_taken c.commands r.0 r.1, tt);
    })

remove_taken : (allowed : ℕ) (c : Counted) (ws : Words) (x : ScriptLine) → remove_of c.commands ws ≡ Ok x → LineTaken allowed c (codes "-" ∷ ws) x
unfolding remove_of
remove_taken allowed c ws x e =
    let r = bind_ok (room_for c.commands) (λ room. at_line_end ws >>= λ end. Ok (Command Remove)) x e in
    let z = bind_ok (at_line_end ws) (λ end. Ok (Command Remove)) x r.2 in
    let here : SpellsCommand (codes "-" ∷ []) Remove = refl in
    subst (λ (y : ScriptLine). LineTaken allowed c (codes "-" ∷ ws) y) (ok_is (Command Remove) x z.2)
    (record {
      says = subst (λ (t : Words). SpellsCommand (codes "-" ∷ t) Remove) (sym (line_ends ws z.0 z.1)) here;
      allows = (room_taken c.commands r.0 r.1, tt);
    })

remove_below_taken : (allowed : ℕ) (c : Counted) (ws : Words) (x : ScriptLine) → remove_below_of c.commands ws ≡ Ok x → LineTaken allowed c (codes "<" ∷ ws) x
unfolding remove_below_of
remove_below_taken allowed c ws x e =
    let r = bind_ok (room_for c.commands) (λ room. number_at 0 key_limit ws >>= λ limit. at_line_end limit.rest >>= λ end. Ok (Command (RemoveBelow limit.value))) x e in
    let l = bind_ok (number_at 0 key_limit ws) (λ limit. at_line_end limit.rest >>= λ end. Ok (Command (RemoveBelow limit.value))) x r.2 in
    let z = bind_ok (at_line_end l.0.rest) (λ end. Ok (Command (RemoveBelow l.0.value))) x l.2 in
    let v = number_taken 0 key_limit ws l.0 l.1 in
    let whole : v.word ∷ [] ≡ ws = sym (v.first ∙ ap (λ (t : Words). v.word ∷ t) (line_ends l.0.rest z.0 z.1)) in
    let here : SpellsCommand (codes "<" ∷ v.word ∷ []) (RemoveBelow l.0.value) = (refl, v.spells) in
    subst (λ (y : ScriptLine). LineTaken allowed c (codes "<" ∷ ws) y) (ok_is (Command (RemoveBelow l.0.value)) x z.2)
    (record {
      says = subst (λ (t : Words). SpellsCommand (codes "<" ∷ t) (RemoveBelow l.0.value)) whole here;
      allows = (room_taken c.commands r.0 r.1, v.below);
    })

lane_taken : (allowed : ℕ) (c : Counted) (ws : Words) (x : ScriptLine) → lane_of allowed c.lanes ws ≡ Ok x → LineTaken allowed c (codes "lane" ∷ ws) x
unfolding lane_of
lane_taken allowed c ws x e =
    let r = bind_ok (cond (ltb c.lanes allowed) (at_line_end ws) (Err Range)) (λ end. Ok NextLane) x e in
    let g = cond_ok (ltb c.lanes allowed) (at_line_end ws) r.0 Range r.1 in
    subst (λ (y : ScriptLine). LineTaken allowed c (codes "lane" ∷ ws) y) (ok_is NextLane x r.2)
    (record { says = ap (λ (t : Words). codes "lane" ∷ t) (line_ends ws r.0 g.1); allows = ltb-true c.lanes allowed g.0 })

-- by the first word

by_word : (allowed : ℕ) (c : Counted) (w fixed : List ℕ) (ws : Words) (x : ScriptLine) (read other : Result ScriptLine Cause) → cond (bytes_eq w fixed) read other ≡ Ok x
    → (read ≡ Ok x → LineTaken allowed c (fixed ∷ ws) x) → (other ≡ Ok x → LineTaken allowed c (w ∷ ws) x) → LineTaken allowed c (w ∷ ws) x
by_word allowed c w fixed ws x read other e this next =
    elim (cases_Bool (bytes_eq w fixed)) [
      | inl same ↦ subst (λ (v : List ℕ). LineTaken allowed c (v ∷ ws) x) (sym (same_word w fixed same)) (this (rw same at e))
      | inr differ ↦ next (rw differ at e)
    ]

pub script_line_taken : (allowed : ℕ) (c : Counted) (words : Words) (x : ScriptLine) → script_line_of allowed c words ≡ Ok x → LineTaken allowed c words x
unfolding script_line_of word_at
script_line_taken allowed c [] x e = absurd cc
script_line_taken allowed c (w ∷ ws) x e =
    by_word allowed c w (codes "+") ws x (insert_of c.commands ws) _ e (insert_taken allowed c ws x) (λ e.
    by_word allowed c w (codes "-") ws x (remove_of c.commands ws) _ e (remove_taken allowed c ws x) (λ e.
    by_word allowed c w (codes "<") ws x (remove_below_of c.commands ws) _ e (remove_below_taken allowed c ws x) (λ e.
    by_word allowed c w (codes "lane") ws x (lane_of allowed c.lanes ws) _ e (lane_taken allowed c ws x) (λ e. absurd cc))))

-- what is spelled is found

pub script_line_found : (allowed : ℕ) (c : Counted) (words : Words) (x : ScriptLine) → Says words x → Allows allowed c x → script_line_of allowed c words ≡ Ok x
unfolding script_line_of word_at insert_of remove_of remove_below_of lane_of
script_line_found allowed c [] (Command (Insert e)) says allows = absurd says
script_line_found allowed c (w ∷ []) (Command (Insert e)) says allows = absurd says
script_line_found allowed c (w ∷ k ∷ []) (Command (Insert e)) says allows = absurd says
script_line_found allowed c (w ∷ k ∷ i ∷ []) (Command (Insert e)) says allows =
    rw (says.0, room_found c.commands allows.0, entry_found k i [] e says.1 says.2, end_found) refl
script_line_found allowed c (w ∷ k ∷ i ∷ v ∷ ws) (Command (Insert e)) says allows = absurd says
script_line_found allowed c [] (Command Remove) says allows = absurd says
script_line_found allowed c (w ∷ []) (Command Remove) says allows = rw (says, room_found c.commands allows.0, end_found) refl
script_line_found allowed c (w ∷ v ∷ []) (Command Remove) says allows = absurd says
script_line_found allowed c (w ∷ v ∷ u ∷ []) (Command Remove) says allows = absurd says
script_line_found allowed c (w ∷ v ∷ u ∷ t ∷ ws) (Command Remove) says allows = absurd says
script_line_found allowed c [] (Command (RemoveBelow limit)) says allows = absurd says
script_line_found allowed c (w ∷ []) (Command (RemoveBelow limit)) says allows = absurd says
script_line_found allowed c (w ∷ l ∷ []) (Command (RemoveBelow limit)) says allows =
    rw (says.0, room_found c.commands allows.0, number_found 0 key_limit l [] limit says.1 (omega arith) allows.1, end_found) refl
script_line_found allowed c (w ∷ l ∷ v ∷ []) (Command (RemoveBelow limit)) says allows = absurd says
script_line_found allowed c (w ∷ l ∷ v ∷ u ∷ ws) (Command (RemoveBelow limit)) says allows = absurd says
script_line_found allowed c words NextLane says allows = rw (says, lt-ltb c.lanes allowed allows, end_found) refl

-- what a line that was read says of the lines before it

pub line_allows : (allowed : ℕ) (c : Counted) (n : ℕ) (words : Words) (x : ScriptLine) → on_line n (script_line_of allowed c words) ≡ Ok x → Allows allowed c x
line_allows allowed c n words x e = (script_line_taken allowed c words x (on_line_ok n (script_line_of allowed c words) x e)).allows
