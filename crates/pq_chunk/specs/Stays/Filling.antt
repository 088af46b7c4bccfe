-- What the words say that the multiset is stays.
use Rattle.std.proofs.Common.{◌≡◌, ℕ, ◌<◌, ◌≤◌, List, [], ◌∷◌, ◌++◌, length, get_or, set, sym, ap, ◌∙◌, subst, arith, All}
use Rattle.std.proofs.lemmas.List.Sums.{sum_by_push}
use mathlib.Core.Option.{some}
use lib.ListN.{get_elem?}
use Rattle.pq_words.specs.declared.entries.Entry.{Entry}
use Rattle.pq_words.specs.Entries.{raw_of}
use Rattle.pq_seats.specs.declared.views.Post.{Post}
use Rattle.pq_seats.proofs.Lists.{sum_kept}
use Rattle.pq_chunk.specs.declared.views.ChunkView.{ChunkView}
use Rattle.pq_chunk.specs.Layout.{place_word, high_word}
use Rattle.pq_chunk.specs.Places.{in_weight, chunk_weight}
use Rattle.pq_chunk.specs.Views.{marked_weight}
use Rattle.pq_chunk.specs.Contents.{ContentFacts, Falls}
use Rattle.pq_chunk.specs.Stays.Sums.{sum_to_same, sum_by_same}
use Rattle.pq_chunk.specs.Stays.Placing.{KeepsPlaces}

-- the places of a chunk below n are as they were
pub falls_stays : (words words' : List ℕ) (c n : ℕ) (es : List Entry) → length es ≤ n → ((i : ℕ) → i < n → get_or words' (place_word c i) 0 ≡ get_or words (place_word c i) 0) → Falls words c es → Falls words' c es
falls_stays words words' c n [] few same h = tt
falls_stays words words' c n (e ∷ es) few same h = (same (length es) (omega arith) ∙ h.0, falls_stays words words' c n es (omega arith) same h.1)

pub weight_stays : (f : ℕ → ℕ) (words words' : List ℕ) (c : ℕ) → ((i : ℕ) → i < 64 → get_or words' (place_word c i) 0 ≡ get_or words (place_word c i) 0) → chunk_weight f words' c ≡ chunk_weight f words c
weight_stays f words words' c same = sum_to_same (λ i. in_weight f (get_or words' (place_word c i) 0)) (λ i. in_weight f (get_or words (place_word c i) 0)) 64 (λ i lt. ap (in_weight f) (same i lt))

module _ (m firsts rest : List Entry) (left first : ℕ) (chunks : List ℕ) (words : List ℕ) (posts : List (Post ChunkView)) (t : ContentFacts m firsts rest left first chunks words posts) where
  -- the words change, but no place and not the first chunk's high
  pub content_words : (words' : List ℕ) → left ≤ 64 → KeepsPlaces words words' → get_or words' (high_word first) 0 ≡ get_or words (high_word first) 0 → ContentFacts m firsts rest left first chunks words' posts
  content_words words' few same high = record {
    splits = t.splits;
    here = t.here;
    falls = falls_stays words words' first 64 firsts (let h = t.here in omega arith) (λ i lt. same first i lt) t.falls;
    below = subst (λ (z : ℕ). All (λ (e : Entry). raw_of e ≤ z) firsts) (sym high) t.below;
    weights = λ f. let a = t.weights f in
        let c = sum_by_same (chunk_weight f words') (chunk_weight f words) chunks (λ c has. weight_stays f words words' c (λ i lt. same c i lt)) in omega arith;
  }

  -- a post changes that weighs as much
  pub content_post : (id : ℕ) (p p' : Post ChunkView) → get_elem? posts id ≡ some p → ((f : ℕ → ℕ) → marked_weight f p' ≡ marked_weight f p) → ContentFacts m firsts rest left first chunks words (set posts id p')
  content_post id p p' at same = record {
    splits = t.splits;
    here = t.here;
    falls = t.falls;
    below = t.below;
    weights = λ f. let a = t.weights f in let s = sum_kept (marked_weight f) posts id p p' at (same f) in omega arith;
  }

  pub content_come : (p' : Post ChunkView) → ((f : ℕ → ℕ) → marked_weight f p' ≡ 0) → ContentFacts m firsts rest left first chunks words (posts ++ p' ∷ [])
  content_come p' weight = record {
    splits = t.splits;
    here = t.here;
    falls = t.falls;
    below = t.below;
    weights = λ f. let a = t.weights f in let s = sum_by_push (marked_weight f) posts p' in let w = weight f in omega arith;
  }

-- the frame
pub content_kept : (m firsts rest : List Entry) (left first : ℕ) (chunks : List ℕ) (words : List ℕ) (posts : List (Post ChunkView)) → ContentFacts m firsts rest left first chunks words posts
    → (words' : List ℕ) (id : ℕ) (p p' : Post ChunkView) → get_elem? posts id ≡ some p → left ≤ 64 → KeepsPlaces words words'
    → get_or words' (high_word first) 0 ≡ get_or words (high_word first) 0 → ((f : ℕ → ℕ) → marked_weight f p' ≡ marked_weight f p)
    → ContentFacts m firsts rest left first chunks words' (set posts id p')
content_kept m firsts rest left first chunks words posts t words' id p p' at few same high weight =
    content_words m firsts rest left first chunks words (set posts id p') (content_post m firsts rest left first chunks words posts t id p p' at weight) words' few same high
