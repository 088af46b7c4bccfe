-- The lanes of a made script insert first, and then remove as many.
use Rattle.std.proofs.Common.{◌≡◌, ℕ, ◌+◌, ◌*◌, List, [], ◌∷◌, ◌++◌, length, map, refl, ap}
use Rattle.std.specs.Prelude.{All, replicate}
use Rattle.std.specs.List.{range_with_len}
use Rattle.std.proofs.lemmas.List.Elements.{All-nil, All-cons}
use Rattle.std.proofs.lemmas.List.FromFn.{length-map-range_with_len}
use Rattle.pq_words.specs.declared.entries.Entry.{Entry}
use Rattle.pq_words.specs.Limits.{key_limit}
use Rattle.pq_model.specs.EntryWords.{entry_of}
use Rattle.pq_model.specs.declared.marks.Act.{Act}
use Rattle.pq_model.specs.declared.marks.Act.TheVariants.{Insert, Remove}
use Rattle.inst_text.specs.Generator.{state_after, drawn, made_lane, made_script}
use Rattle.pq_lanes.specs.Drills.{IsDrillLane}

insert_each : (f : ℕ → Entry) (xs : List ℕ) → map (λ i. Insert (f i)) xs ≡ map Insert (map f xs)
insert_each f [] = refl
insert_each f (x ∷ xs) = ap (λ (l : List Act). Insert (f x) ∷ l) (insert_each f xs)

made_lane_drills : (seed size n : ℕ) → IsDrillLane size (made_lane seed size n)
made_lane_drills seed size n = let f : ℕ → Entry = λ i. entry_of (drawn (state_after seed (n + i)) key_limit) (n + i) in record {
  entries = map f (range_with_len 0 size);
  size_is = length-map-range_with_len f 0 size;
  acts_are = ap (λ (l : List Act). l ++ replicate size Remove) (insert_each f (range_with_len 0 size));
}

each_drills : (seed size : ℕ) (xs : List ℕ) → All (IsDrillLane size) (map (λ w. made_lane seed size (w * size)) xs)
each_drills seed size [] = All-nil (IsDrillLane size)
each_drills seed size (w ∷ ws) = All-cons (IsDrillLane size) (made_lane seed size (w * size)) (map (λ v. made_lane seed size (v * size)) ws)
    (made_lane_drills seed size (w * size)) (each_drills seed size ws)

pub made_lanes_drill : (seed lanes size : ℕ) → All (IsDrillLane size) (made_script seed lanes size)
made_lanes_drill seed lanes size = each_drills seed size (range_with_len 0 lanes)

pub made_lanes_are : (seed lanes size : ℕ) → length (made_script seed lanes size) ≡ lanes
made_lanes_are seed lanes size = length-map-range_with_len (λ w. made_lane seed size (w * size)) 0 lanes
