-- How a text comes to its reading: definition after definition, to its end or to a refusal.
use mathlib.Core.Path.{◌≡◌, refl, sym, ap, ◌∙◌}
use mathlib.Core.List.{List, [], ◌∷◌, ◌++◌}
use mathlib.Core.Bool.{Bool, true, false}
use Prim.Native.Nat.{ℕ, ◌+◌, ◌≤◌}
use native.Mathlib.Omega.{arith}
use lib.ListN.{length, length-append}
use Rattle.definition.specs.Lists.{choose, here, there, all, any}
use Rattle.definition.specs.Grammar.{Symbol, part, Document, Definition, Definition*, rule, within}
use Rattle.definition.specs.GrammarSets.{nullable, first}
use Rattle.definition.specs.Machine.{has, first_set_of, empties}
use Rattle.definition.specs.Cards.{Card}
use Rattle.definition.specs.Derivation.{Seen}
use Rattle.definition.specs.Lexical.{tokens_in}
use Rattle.definition.specs.ItemCards.{Listing, listed, nothing_listed, cards_read}
use Rattle.definition.specs.Reading.{Reading, accepted, refused, reading}
use Rattle.definition.specs.Refusals.{card_capacity}
use Rattle.parser_laws.specs.Verdict.{passes, fails}
use Rattle.parser_laws.specs.Standing.{from, standing, AheadOf}
use Rattle.parser_laws.proofs.Tests.{clash, within_bounds, subset, subset_has}
use Rattle.parser_laws.proofs.Steps.{told, whole_verdict}
use Rattle.parser_laws.proofs.Ahead.{open_part, skip_part, no_part, at_whole, not_whole}
use Rattle.parser_lexer.specs.Sorts.{sort_number}
use Rattle.parser_lexer.specs.Ahead.{Ahead}
use Rattle.parser_lexer.specs.declared.cursor.Cursor.{Cursor}
use Rattle.std.specs.Prelude.{Ok, Err}
use Rattle.parser_values.specs.declared.error.SyntaxError.{SyntaxError}
use Rattle.parser_values.specs.Errors.{number, place}
use Rattle.parser_items.specs.Lists.{put_cards}
use Rattle.parser_items.proofs.Writing.{put_append}
use Rattle.parser.specs.Headings.{Defines, Definitions, Told}

-- What begins a definition is a token.
a_token : (s : ℕ) → has (first Definition) s ≡ true → s ≤ 54
unfolding has subset all any first
a_token s w = go (within 0 54 s) refl (subset_has (first Definition) ((0, 54) ∷ []) s refl w)
  where
    go : (t : Bool) → within 0 54 s ≡ t → choose t true false ≡ true → s ≤ 54
    go true e p = (within_bounds 0 54 s e).1
    go false e p = clash p

module _ (text : List ℕ) (at s b e : ℕ) (a : AheadOf text at s b e) (cs : List Card) (h : ℕ) where
  -- A text is a definition and more; where none begins, both are refused.
  one_first : standing text at (part Document ∷ []) 0 cs h ≡ standing text at (part Definition ∷ part Definition* ∷ []) 0 cs h
  unfolding rule first_set_of nullable first
  one_first = go (has (first Definition) s) refl
    where
      go : (t : Bool) → has (first Definition) s ≡ t → standing text at (part Document ∷ []) 0 cs h ≡
          standing text at (part Definition ∷ part Definition* ∷ []) 0 cs h
      go true w = open_part text at s b e a [] 0 cs h Document (part Definition ∷ part Definition* ∷ []) (a_token s w) here w
      go false w = no_part text at s b e a [] 0 cs h Document refl w ∙ sym (no_part text at s b e a (part Definition* ∷ []) 0 cs h Definition refl w)

  -- Before the end of the text, there is one more.
  one_more_lem : (s ≡ 55 → ⊥) → standing text at (part Definition* ∷ []) 0 cs h ≡ standing text at (part Definition ∷ part Definition* ∷ []) 0 cs h
  unfolding rule first_set_of nullable first empties
  one_more_lem n = go (has (first Definition) s) refl
    where
      go : (t : Bool) → has (first Definition) s ≡ t → standing text at (part Definition* ∷ []) 0 cs h ≡
          standing text at (part Definition ∷ part Definition* ∷ []) 0 cs h
      go true w = open_part text at s b e a [] 0 cs h Definition* (part Definition ∷ part Definition* ∷ []) (a_token s w) here w
      go false w =
          skip_part text at s b e a [] 0 cs h Definition* [] (there here) refl w ∙
          not_whole text at s b e a 0 cs h n ∙
          sym (no_part text at s b e a (part Definition* ∷ []) 0 cs h Definition refl w)

  no_more : s ≡ 55 → standing text at (part Definition* ∷ []) 0 cs h ≡ passes (record { cards = cs; head = h; end = at })
  unfolding rule first empties has within
  no_more i = skip_part text at s b e a [] 0 cs h Definition* [] (there here) refl (ap (has (first Definition*)) i) ∙ at_whole text at s b e a 0 cs h i

-- ---- In the middle of a text.

module _ (text : List ℕ) where
  pub begins : (c : Cursor) (before : List ℕ) → Ahead text c → c.last ≡ 0 → c.cards ≡ 0 →
      Definitions text before (part Definition ∷ part Definition* ∷ []) c before
  unfolding put_cards
  begins c before a l n = record {
    cards = [];
    head = 0;
    written = refl;
    goes =
        ap (λ (m : ℕ). standing text m (part Document ∷ []) 0 [] 0) (sym l) ∙
        one_first text c.last (sort_number c.sort) c.begins c.ends a [] 0;
    ahead = a;
    counted = n;
  }

  pub further : {c k : Cursor} {before middle after : List ℕ} (us : List Symbol) → Definitions text before (part Definition ∷ us) c middle →
      Defines text c (Ok k) middle after → Definitions text before us k after
  further {c} {k} {before} {middle} us i f = record {
    cards = i.cards ++ f.cards;
    head = length i.cards;
    written =
        f.written ∙
        ap (λ (ws : List ℕ). put_cards ws card_capacity c.cards f.cards) i.written ∙
        ap (λ (n : ℕ). put_cards (put_cards before card_capacity 0 i.cards) card_capacity n f.cards) (i.counted ∙ omega arith) ∙
        sym (put_append before card_capacity 0 i.cards f.cards);
    goes = i.goes ∙ f.goes us i.cards i.head;
    ahead = f.ready.0;
    counted = f.ready.1 ∙ ap (λ (n : ℕ). n + length f.cards) i.counted ∙ sym (length-append i.cards f.cards);
  }

  pub again : {c : Cursor} {before after : List ℕ} → (sort_number c.sort ≡ 55 → ⊥) → Definitions text before (part Definition* ∷ []) c after →
      Definitions text before (part Definition ∷ part Definition* ∷ []) c after
  again {c} n i = record {
    cards = i.cards;
    head = i.head;
    written = i.written;
    goes = i.goes ∙ one_more_lem text c.last (sort_number c.sort) c.begins c.ends i.ahead i.cards i.head n;
    ahead = i.ahead;
    counted = i.counted;
  }

  -- ---- The reading of the text.

  reading_is : told (reading text) ≡ standing text 0 (part Document ∷ []) 0 [] 0
  unfolding reading standing from tokens_in nothing_listed
  reading_is = whole_verdict (tokens_in text)

  refused_is : (n p : ℕ) (r : Reading) → told r ≡ fails n p → r ≡ refused n p
  refused_is n p (accepted es) e = absurd (let z : ◌≡◌ {A = ℕ} 0 1 = cc in omega arith)
  refused_is n p (refused m q) e = cc

  accepted_is : (l : Listing) (r : Reading) → told r ≡ passes l → (es : List Seen) × (r ≡ accepted es) × (listed nothing_listed es ≡ l)
  accepted_is l (accepted es) e = (es, refl, cc)
  accepted_is l (refused m q) e = absurd (let z : ◌≡◌ {A = ℕ} 0 1 = cc in omega arith)

  pub whole : {c : Cursor} {before after : List ℕ} → sort_number c.sort ≡ 55 → Definitions text before (part Definition* ∷ []) c after →
      Told text (Ok c.cards) before after
  unfolding cards_read
  whole {c} {before} e i =
      let l : Listing = record { cards = i.cards; head = i.head; end = c.last } in
      let t = accepted_is l (reading text) (reading_is ∙ i.goes ∙ no_more text c.last (sort_number c.sort) c.begins c.ends i.ahead i.cards i.head e) in
      let m : cards_read t.0 ≡ i.cards = ap (λ (x : Listing). x.cards) t.2 in
      (t.0, t.1, i.counted ∙ ap length (sym m), i.written ∙ ap (put_cards before card_capacity 0) (sym m))

  pub refuses : {c : Cursor} {e : SyntaxError} {before middle after : List ℕ} (us : List Symbol) → Definitions text before (part Definition ∷ us) c middle →
      Defines text c (Err e) middle after → Told text (Err e) before after
  refuses {e = e} us i f = refused_is (number e) (place e) (reading text) (reading_is ∙ i.goes ∙ f.goes us i.cards i.head)
