-- Items and their cards: what the marks of an item do to the cards listed, in the form in which code uses it.
use mathlib.Core.Path.{◌≡◌, refl, ap, ◌∙◌}
use mathlib.Core.List.{List, [], ◌∷◌, ◌++◌}
use Prim.Native.Nat.{ℕ, ◌-◌}
use native.Mathlib.Omega.{arith}
use lib.ListN.{length, length-append}
use Rattle.definition.specs.Grammar.{Symbol, mark, heading, kind, heading_ends, item, item_ends, named}
use Rattle.definition.specs.Lexical.{Lexed}
use Rattle.definition.specs.Cards.{Card}
use Rattle.definition.specs.ItemCards.{Listing, amend, begun, of_kind, ended, named_by, noting, level_after}
use Rattle.parser_laws.specs.Verdict.{verdict, next_of}
use Rattle.parser_laws.proofs.Steps.{by_mark}

-- The card after those before it.
pub amend_at : (f : Card → Card) (cs : List Card) (c : Card) (ks : List Card) → amend f (length cs) (cs ++ (c ∷ ks)) ≡ cs ++ (f c ∷ ks)
unfolding amend
amend_at f [] c ks = refl
amend_at f (x ∷ cs) c ks = ap (λ (r : List Card). x ∷ r) (amend_at f cs c ks)

-- The last card.
pub amend_last : (f : Card → Card) (cs : List Card) (c : Card) → amend f (length (cs ++ (c ∷ [])) - 1) (cs ++ (c ∷ [])) ≡ cs ++ (f c ∷ [])
amend_last f cs c =
    let z : length (cs ++ (c ∷ [])) - 1 ≡ length cs = ap (λ (n : ℕ). n - 1) (length-append cs (c ∷ [])) ∙ omega arith in
    ap (λ (n : ℕ). amend f n (cs ++ (c ∷ []))) z ∙ amend_at f cs c []

abbrev pub cards_so_far : List Card → ℕ → ℕ → Listing
cards_so_far cs h e = record { cards = cs; head = h; end = e }

module _ (l : Lexed) (ss : List Symbol) (level : ℕ) (cs : List Card) (h e : ℕ) where
  -- A part of kind k begins: its card comes last.
  pub item_begins : (k : ℕ) → verdict l (mark (item k) ∷ ss) level (cards_so_far cs h e) ≡
      verdict l ss level (cards_so_far (cs ++ (begun k (next_of l.tokens).begins ∷ [])) h e)
  unfolding noting level_after
  item_begins k = by_mark l ss level (cards_so_far cs h e) (item k)

  -- The next token is the name of the item whose card is last.
  pub item_named : (c : Card) → verdict l (mark named ∷ ss) level (cards_so_far (cs ++ (c ∷ [])) h e) ≡
      verdict l ss level (cards_so_far (cs ++ (named_by (next_of l.tokens) c ∷ [])) h e)
  unfolding noting level_after
  item_named c = by_mark l ss level (cards_so_far (cs ++ (c ∷ [])) h e) named ∙
      ap (λ (ks : List Card). verdict l ss level (cards_so_far ks h e)) (amend_last (named_by (next_of l.tokens)) cs c)

  -- It ends with the token just read.
  pub item_ends_lem : (c : Card) → verdict l (mark item_ends ∷ ss) level (cards_so_far (cs ++ (c ∷ [])) h e) ≡
      verdict l ss level (cards_so_far (cs ++ (ended e c ∷ [])) h e)
  unfolding noting level_after
  item_ends_lem c = by_mark l ss level (cards_so_far (cs ++ (c ∷ [])) h e) item_ends ∙
      ap (λ (ks : List Card). verdict l ss level (cards_so_far ks h e)) (amend_last (ended e) cs c)

  -- A heading begins: its card comes last, and its number is kept.
  pub heading_begins : verdict l (mark heading ∷ ss) level (cards_so_far cs h e) ≡
      verdict l ss level (cards_so_far (cs ++ (begun 0 (next_of l.tokens).begins ∷ [])) (length cs) e)
  unfolding noting level_after
  heading_begins = by_mark l ss level (cards_so_far cs h e) heading

  -- Its kind, and its end after its parts ks.
  pub heading_kind : (k : ℕ) (c : Card) (ks : List Card) → verdict l (mark (kind k) ∷ ss) level (cards_so_far (cs ++ (c ∷ ks)) (length cs) e) ≡
      verdict l ss level (cards_so_far (cs ++ (of_kind k c ∷ ks)) (length cs) e)
  unfolding noting level_after
  heading_kind k c ks = by_mark l ss level (cards_so_far (cs ++ (c ∷ ks)) (length cs) e) (kind k) ∙
      ap (λ (xs : List Card). verdict l ss level (cards_so_far xs (length cs) e)) (amend_at (of_kind k) cs c ks)

  pub heading_ends_lem : (c : Card) (ks : List Card) → verdict l (mark heading_ends ∷ ss) level (cards_so_far (cs ++ (c ∷ ks)) (length cs) e) ≡
      verdict l ss level (cards_so_far (cs ++ (ended e c ∷ ks)) (length cs) e)
  unfolding noting level_after
  heading_ends_lem c ks = by_mark l ss level (cards_so_far (cs ++ (c ∷ ks)) (length cs) e) heading_ends ∙
      ap (λ (xs : List Card). verdict l ss level (cards_so_far xs (length cs) e)) (amend_at (ended e) cs c ks)
