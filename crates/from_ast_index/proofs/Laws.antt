-- Which heading an entry of the arrays of types and of extensions is.
use mathlib.Core.Path.{◌≡◌, sym, ◌∙◌, ap}
use mathlib.Core.List.{List, [], map}
use mathlib.Core.Bool.{Bool}
use mathlib.Core.Option.{some}
use Prim.Native.Nat.{ℕ, ◌<◌}
use native.Mathlib.Omega.{arith}
use lib.ListN.{length, get_or, get_elem?, length-map}
use Rattle.definition.specs.Lists.{filter, All}
use Rattle.definition.specs.Headings.{Heading, is_type_extension, same_named, defined_types}
use Rattle.definition.specs.Store.{cards_used_of}
use Rattle.store_reader.specs.Stored.{stored_headings, heading_at}
use Rattle.definition.proofs.All.{all_filter, all_firsts, all_to}
use Rattle.store_reader.proofs.Lists.{all_get}
use Rattle.store_reader.proofs.Words.{headings_at}
use Rattle.from_ast_index.specs.Index.{Listed, heading_number}
use Rattle.from_ast_index.proofs.Lists.{get_d_picture, get_some}

-- ---- Entries of an array.

-- A heading is the one at the position that its number is.
abbrev pub Standing : List ℕ → List ℕ → Heading → Type 0
Standing text words h = (h.number < cards_used_of words) × (h ≡ heading_at text words h.number)

pub headings_stand : (text words : List ℕ) → All (Standing text words) (stored_headings text words)
headings_stand text words = all_to _ (Standing text words) (λ h a. (a.0, a.2)) (stored_headings text words) (headings_at text words)

kept_stand : (text words : List ℕ) (p : Heading → Bool) → All (Standing text words) (filter p (stored_headings text words))
kept_stand text words p = all_filter (Standing text words) p (stored_headings text words) (headings_stand text words)

module _ (text words : List ℕ) where
  -- Where an array begins with the numbers of such headings, its entry is the heading's card.
  entry_is : (hs : List Heading) → All (Standing text words) hs → (cards : List ℕ) → cards ≡ map heading_number hs →
      (k : ℕ) → k < length cards → get_elem? hs k ≡ some (heading_at text words (get_or cards k 0))
  unfolding heading_number
  entry_is hs a cards e k h =
      let n = ap length e ∙ length-map hs heading_number in
      let g = get_some hs k (omega arith) in
      let number : get_or cards k 0 ≡ g.0.number = ap (λ (xs : List ℕ). get_or xs k 0) e ∙ get_d_picture heading_number hs k g.0 g.1 in
      g.1
      ∙ ap some (all_get (Standing text words) hs a k g.0 g.1).1
      ∙ ap (λ (c : ℕ). some (heading_at text words c)) (sym number)

module _ {text words headings owners types orphan_cards extensions : List ℕ} (x : Listed text words headings owners types orphan_cards extensions) where
  pub type_here : (k : ℕ) → k < length types → get_elem? (defined_types (stored_headings text words)) k ≡ some (heading_at text words (get_or types k 0))
  unfolding defined_types
  type_here =
      entry_is text words (defined_types (stored_headings text words))
      (all_firsts (Standing text words) same_named [] (filter _ (stored_headings text words)) (kept_stand text words _)) types x.types_are

  pub extension_here : (k : ℕ) → k < length extensions →
      get_elem? (filter is_type_extension (stored_headings text words)) k ≡ some (heading_at text words (get_or extensions k 0))
  extension_here =
      entry_is text words (filter is_type_extension (stored_headings text words)) (kept_stand text words is_type_extension) extensions x.extensions_are
