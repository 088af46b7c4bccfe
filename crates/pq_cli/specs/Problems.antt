-- The problems that the program uses, each named by a word.
use Rattle.std.specs.Prelude.{ℕ, ◌≤◌, ◌++◌, List, [], ◌∷◌, length}
use Rattle.pq_io.specs.Inputs.{longest_input}
use Rattle.bb_problem.specs.Meaning.{Meaning}
use Rattle.bb_knap.specs.Branching as knapsacks
use Rattle.bb_shop.specs.Branching as shops
use Rattle.bb_onemach.specs.Branching as active_shops
use Rattle.cli_words.specs.declared.command.Branching.{Branching}
use Rattle.cli_words.specs.declared.command.Branching.TheVariants.{Dispatch, Active}
use Rattle.cli_words.specs.declared.command.Kind.{Kind}
use Rattle.cli_words.specs.declared.command.Kind.TheVariants.{Knapsack, Shop}
use Rattle.pq_cli.specs.declared.status.Status.TheVariants as statuses
use Rattle.pq_cli.specs.Texts.{feasible_text}
use Rattle.pq_cli.specs.Using.{Texts, IsSolution, IsChecked}
use Rattle.pq_cli.specs.Problems.KnapsackTexts as knapsack_texts
use Rattle.pq_cli.specs.Problems.ShopTexts as shop_texts
use Rattle.pq_cli.specs.Problems.ActiveShopTexts as active_shop_texts
pub mod KnapsackTexts
pub mod ShopTexts
pub mod ActiveShopTexts

-- a problem in use: its instances, the nodes of its trees and its plans, and what they mean
pub record Used : Type 1 where
  pub Instance : Type 0
  pub Node : Type 0
  pub Plan : Type 0
  pub meaning : Instance → Meaning Node Plan
  pub texts : Texts Instance Plan

-- the problem that means this
abbrev pub in_use : {I N P : Type 0} → (I → Meaning N P) → Texts I P → Used
in_use {I} {N} {P} meaning texts = record { Instance = I; Node = N; Plan = P; meaning = meaning; texts = texts }

abbrev pub used : Kind → Branching → Used
used Knapsack branching = in_use knapsacks.meaning_of knapsack_texts.texts
used Shop Dispatch = in_use shops.meaning_of shop_texts.texts
used Shop Active = in_use active_shops.meaning_of active_shop_texts.texts

-- What is the solution of an instance is a feasible plan behind it, for a text of the instance that ends with a line
-- feed, if both together are no longer than an input may be.
abbrev pub IsCheckable : Used → Type 0
IsCheckable u = (bytes text : List ℕ) → IsSolution u.meaning u.texts (bytes ++ 10 ∷ []) text
    → length (bytes ++ 10 ∷ text) ≤ longest_input
    → (number : ℕ) × IsChecked u.texts (bytes ++ 10 ∷ text) statuses.Ok (feasible_text number)
