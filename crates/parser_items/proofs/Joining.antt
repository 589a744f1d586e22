-- How readings with cards are put together, and how an item comes to its card.
use mathlib.Core.Path.{◌≡◌, refl, sym, ap, ◌∙◌}
use mathlib.Core.List.{List, [], ◌∷◌, ◌++◌, append_assoc, append-nil}
use mathlib.Core.Bool.{true, false}
use Prim.Native.Nat.{ℕ, ◌+◌, ◌≤◌}
use native.Mathlib.Omega.{arith}
use lib.ListN.{length, length-append}
use Rattle.definition.specs.Lists.{Among}
use Rattle.definition.specs.Grammar.{Symbol, one, part, mark, Part, rule, item, item_ends, named}
use Rattle.definition.specs.GrammarSets.{nullable, first}
use Rattle.definition.specs.Machine.{has, first_set_of}
use Rattle.definition.specs.Cards.{Card}
use Rattle.definition.specs.ItemCards.{begun, named_by, ended}
use Rattle.definition.specs.Refusals.{card_capacity}
use Rattle.parser_laws.specs.Standing.{standing}
use Rattle.parser_laws.proofs.Tests.{subset}
use Rattle.parser_laws.proofs.Ahead.{token_of, open_part, repeats, begin_item, name_item_lem, end_item}
use Rattle.parser_lexer.specs.Sorts.{sort_number}
use Rattle.parser_lexer.specs.Ahead.{Ahead}
use Rattle.parser_lexer.specs.declared.cursor.Cursor.{Cursor}
use Rattle.parser_values.specs.Reads.{goes_on, Ready, Reads}
use Rattle.std.specs.Prelude.{Ok, Err}
use Rattle.parser_values.specs.declared.error.SyntaxError.{SyntaxError}
use Rattle.parser_values.specs.Reads.{End}
use Rattle.parser_items.specs.Lists.{put_card, put_cards, Lists, Listing, Item}
use Rattle.parser_items.proofs.Writing.{put_append}
use Rattle.parser_items.proofs.Beginning.{wanting, by_token, Sole, as_sole}

module _ (text : List ℕ) where
  ready_same : {m n : ℕ} (r : End) → m ≡ n → Ready text m r → Ready text n r
  ready_same (Ok k) e (a, f) = (a, f ∙ e)
  ready_same (Err x) e u = u

  -- Cards behind cards behind cards.
  goes_same : (r : End) (ss : List Symbol) (h : ℕ) (xs ys : List Card) → xs ≡ ys → goes_on text r ss 0 xs h ≡ goes_on text r ss 0 ys h
  goes_same r ss h xs ys e = ap (λ (x : List Card). goes_on text r ss 0 x h) e

  -- What has no card.
  pub unlisted : {c : Cursor} {r : End} {ps : List Symbol} (before : List ℕ) → Reads ps text c 0 r → Lists ps text c r before before
  unfolding put_cards
  unlisted {c} {r} {ps} before f = record {
    cards = [];
    written = refl;
    goes = λ ss cs h. f.goes ss cs h ∙ goes_same r ss h cs (cs ++ []) (sym (append-nil cs));
    ready = ready_same r (omega arith) f.ready;
  }

  -- ---- In the middle.

  pub at_first : (ps : List Symbol) (b : Cursor) (before : List ℕ) → Ahead text b → Listing ps text b before ps b before
  unfolding put_cards
  at_first ps b before a = record {
    cards = [];
    written = refl;
    goes = λ ss cs h. ap (λ (x : List Card). standing text b.last (ps ++ ss) 0 x h) (sym (append-nil cs));
    ahead = a;
    counted = omega arith;
  }

  -- Symbols of what is left are read.
  pub further : {b c k : Cursor} {before middle after : List ℕ} (ps qs us : List Symbol) → Listing ps text b before (qs ++ us) c middle →
      Lists qs text c (Ok k) middle after → Listing ps text b before us k after
  further {b} {c} {k} {before} {middle} {after} ps qs us i f = record {
    cards = i.cards ++ f.cards;
    written =
        f.written ∙
        ap (λ (ws : List ℕ). put_cards ws card_capacity c.cards f.cards) i.written ∙
        ap (λ (n : ℕ). put_cards (put_cards before card_capacity b.cards i.cards) card_capacity n f.cards) i.counted ∙
        sym (put_append before card_capacity b.cards i.cards f.cards);
    goes = λ ss cs h.
        i.goes ss cs h ∙
        ap (λ (x : List Symbol). standing text c.last x 0 (cs ++ i.cards) h) (append_assoc qs us ss) ∙
        f.goes (us ++ ss) (cs ++ i.cards) h ∙
        ap (λ (x : List Card). standing text k.last (us ++ ss) 0 x h) (append_assoc cs i.cards f.cards);
    ahead = f.ready.0;
    counted = f.ready.1 ∙ ap (λ (n : ℕ). n + length f.cards) i.counted ∙ count b.cards i.cards f.cards;
  }
    where
      count : (n : ℕ) (xs ys : List Card) → n + length xs + length ys ≡ n + length (xs ++ ys)
      count n xs ys = rw (length-append xs ys) (omega arith)

  -- All that is left is read, or refused.
  pub finished : {b c : Cursor} {r : End} {before middle after : List ℕ} (ps qs : List Symbol) → Listing ps text b before qs c middle →
      Lists qs text c r middle after → Lists ps text b r before after
  finished {b} {c} {r} {before} ps qs i f = record {
    cards = i.cards ++ f.cards;
    written =
        f.written ∙
        ap (λ (ws : List ℕ). put_cards ws card_capacity c.cards f.cards) i.written ∙
        ap (λ (n : ℕ). put_cards (put_cards before card_capacity b.cards i.cards) card_capacity n f.cards) i.counted ∙
        sym (put_append before card_capacity b.cards i.cards f.cards);
    goes = λ ss cs h.
        i.goes ss cs h ∙
        f.goes ss (cs ++ i.cards) h ∙
        goes_same r ss h _ _ (append_assoc cs i.cards f.cards);
    ready = ready_same r (ap (λ (n : ℕ). n + length f.cards) i.counted ∙ count b.cards i.cards f.cards) f.ready;
  }
    where
      count : (n : ℕ) (xs ys : List Card) → n + length xs + length ys ≡ n + length (xs ++ ys)
      count n xs ys = rw (length-append xs ys) (omega arith)

  -- Symbols of what is left are refused, and so is all.
  pub or_refused_lem : {c : Cursor} {before after : List ℕ} (qs us : List Symbol) (e : SyntaxError) → Lists qs text c (Err e) before after →
      Lists (qs ++ us) text c (Err e) before after
  or_refused_lem {c} qs us e f = record {
    cards = f.cards;
    written = f.written;
    goes = λ ss cs h.
        ap (λ (x : List Symbol). standing text c.last x 0 cs h) (append_assoc qs us ss) ∙
        f.goes (us ++ ss) cs h;
    ready = f.ready;
  }

  -- An alternative of a part: the only one, or that which the token ahead begins.
  pub alone : {c : Cursor} {e : End} {before after : List ℕ} → Ahead text c → (n : Part) (r : List Symbol) → Sole n r → Lists r text c e before after →
      Lists (part n ∷ []) text c e before after
  alone {c} a n r t f = record {
    cards = f.cards;
    written = f.written;
    goes = λ ss cs h. as_sole text c a n r ss cs h t ∙ f.goes ss cs h;
    ready = f.ready;
  }

  pub opens : {c : Cursor} {e : End} {before after : List ℕ} → Ahead text c → (n : Part) (r : List Symbol) → sort_number c.sort ≤ 54 → Among r (rule n) →
      has (first_set_of r) (sort_number c.sort) ≡ true → Lists r text c e before after → Lists (part n ∷ []) text c e before after
  opens {c} a n r k i w f = record {
    cards = f.cards;
    written = f.written;
    goes = λ ss cs h. open_part text c.last (sort_number c.sort) c.begins c.ends a ss 0 cs h n r k i w ∙ f.goes ss cs h;
    ready = f.ready;
  }

  -- The same of the part that is next in the middle.
  pub opened : {b c : Cursor} {before after : List ℕ} (ps us : List Symbol) (n : Part) (r : List Symbol) → sort_number c.sort ≤ 54 → Among r (rule n) →
      has (first_set_of r) (sort_number c.sort) ≡ true → Listing ps text b before (part n ∷ us) c after → Listing ps text b before (r ++ us) c after
  opened {b} {c} ps us n r k i w f = record {
    cards = f.cards;
    written = f.written;
    goes = λ ss cs h.
        f.goes ss cs h ∙
        open_part text c.last (sort_number c.sort) c.begins c.ends f.ahead (us ++ ss) 0 (cs ++ f.cards) h n r k i w ∙
        ap (λ (x : List Symbol). standing text c.last x 0 (cs ++ f.cards) h) (sym (append_assoc r us ss));
    ahead = f.ahead;
    counted = f.counted;
  }

  -- A repeated part m = n m before its closer x, which does not stand ahead: n comes first.
  pub once_more : {b c : Cursor} {before after : List ℕ} (ps us : List Symbol) (n m : Part) → Among (part n ∷ part m ∷ []) (rule m) → Among [] (rule m) →
      nullable n ≡ false → subset (first m) (first n) ≡ true → subset (first n) ((0, 54) ∷ []) ≡ true → (x : ℕ) → (sort_number c.sort ≡ x → ⊥) →
      Listing ps text b before (part m ∷ one x x ∷ us) c after → Listing ps text b before (part n ∷ part m ∷ one x x ∷ us) c after
  once_more {b} {c} ps us n m i j u f g x z w = record {
    cards = w.cards;
    written = w.written;
    goes = λ ss cs h. w.goes ss cs h ∙ repeats text c.last (sort_number c.sort) c.begins c.ends w.ahead (us ++ ss) 0 (cs ++ w.cards) h n m i j u f g x z;
    ahead = w.ahead;
    counted = w.counted;
  }

  -- ---- An item: it begins, symbols of it are read, its name stands ahead, it ends and its card is written.

  pub item_begins : (b : Cursor) → Ahead text b → (k : ℕ) (qs : List Symbol) → wanting qs ≡ true → Item (mark (item k) ∷ qs) text b qs b (begun k b.begins)
  unfolding wanting
  item_begins b a k qs w = record {
    goes = λ ss cs h. by_token text b a (mark (item k) ∷ qs) qs ss cs (cs ++ (begun k b.begins ∷ [])) h w w
        (begin_item text b.last (sort_number b.sort) b.begins b.ends a (qs ++ ss) 0 cs h k);
    ahead = a;
    counted = refl;
  }

  pub item_reads : {b c k : Cursor} {x : Card} (ps qs us : List Symbol) → Item ps text b (qs ++ us) c x → Reads qs text c 0 (Ok k) → Item ps text b us k x
  item_reads {b} {c} {k} {x} ps qs us i f = record {
    goes = λ ss cs h.
        i.goes ss cs h ∙
        ap (λ (y : List Symbol). standing text c.last y 0 (cs ++ (x ∷ [])) h) (append_assoc qs us ss) ∙
        f.goes (us ++ ss) (cs ++ (x ∷ [])) h;
    ahead = f.ready.0;
    counted = f.ready.1 ∙ i.counted;
  }

  -- Refused in an item: no card is listed.
  pub item_refused : {b c : Cursor} {x : Card} (before : List ℕ) (ps qs us : List Symbol) (e : SyntaxError) → Item ps text b (qs ++ us) c x →
      Reads qs text c 0 (Err e) → Lists ps text b (Err e) before before
  unfolding put_cards
  item_refused {b} {c} {x} before ps qs us e i f = record {
    cards = [];
    written = refl;
    goes = λ ss cs h.
        i.goes ss cs h ∙
        ap (λ (y : List Symbol). standing text c.last y 0 (cs ++ (x ∷ [])) h) (append_assoc qs us ss) ∙
        f.goes (us ++ ss) (cs ++ (x ∷ [])) h;
    ready = tt;
  }

  -- The token ahead is its name.
  pub item_named : {b c : Cursor} {x : Card} (ps us : List Symbol) → wanting us ≡ true → Item ps text b (mark named ∷ us) c x →
      Item ps text b us c (named_by (token_of (sort_number c.sort) c.begins c.ends) x)
  unfolding wanting
  item_named {b} {c} {x} ps us w i = record {
    goes = λ ss cs h.
        i.goes ss cs h ∙
        by_token text c i.ahead (mark named ∷ us) us ss (cs ++ (x ∷ [])) (cs ++ (named_by (token_of (sort_number c.sort) c.begins c.ends) x ∷ [])) h w w
        (name_item_lem text c.last (sort_number c.sort) c.begins c.ends i.ahead (us ++ ss) 0 cs h x);
    ahead = i.ahead;
    counted = i.counted;
  }

  -- It ends, and its card is written: k is the cursor with one card more.
  pub item_ends_lem : {b c : Cursor} {x : Card} {before after : List ℕ} (ps : List Symbol) (k : Cursor) → Ahead text k → k.last ≡ c.last →
      k.cards ≡ b.cards + 1 → Item ps text b (mark item_ends ∷ []) c x → after ≡ put_card before card_capacity b.cards (ended c.last x) →
      Lists ps text b (Ok k) before after
  unfolding put_cards
  item_ends_lem {b} {c} {x} ps k a e n i w = record {
    cards = ended c.last x ∷ [];
    written = w;
    goes = λ ss cs h.
        i.goes ss cs h ∙
        end_item text c.last 0 ss cs h x ∙
        ap (λ (m : ℕ). standing text m ss 0 (cs ++ (ended c.last x ∷ [])) h) (sym e);
    ready = (a, n);
  }
