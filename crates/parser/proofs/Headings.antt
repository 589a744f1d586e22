-- How a definition comes to its card: it begins, tokens of it are read, a part is opened, its kind and its name are noted, it ends and its card is
-- written; or it is refused.
use mathlib.Core.Path.{◌≡◌, refl, sym, ap, subst, ◌∙◌}
use mathlib.Core.List.{List, [], ◌∷◌, ◌++◌, append_assoc}
use mathlib.Core.Bool.{true, false}
use Prim.Native.Nat.{ℕ, ◌+◌, ◌-◌, ◌≤◌}
use native.Mathlib.Omega.{arith}
use lib.ListN.{length}
use Rattle.definition.specs.Lists.{Among, here, there}
use Rattle.definition.specs.Grammar.{Symbol, one, part, mark, Part, Definition, Description?, Described, Extended, rule, within, heading, kind, heading_ends}
use Rattle.definition.specs.Grammar.{named, extend, string}
use Rattle.definition.specs.GrammarSets.{nullable, first}
use Rattle.definition.specs.Machine.{has, first_set_of, empties}
use Rattle.definition.specs.Cards.{Card}
use Rattle.definition.specs.ItemCards.{begun, of_kind, named_by, ended, noting, level_after}
use Rattle.definition.specs.Refusals.{card_capacity}
use Rattle.parser_laws.specs.Verdict.{next_of}
use Rattle.parser_laws.specs.Standing.{from, standing}
use Rattle.parser_laws.proofs.Tests.{within_is, within_bounds}
use Rattle.parser_laws.proofs.Picking.{above, other}
use Rattle.parser_laws.proofs.Steps.{by_mark}
use Rattle.parser_laws.proofs.Ahead.{take_token, no_token_lem, open_part, skip_part, no_part, begin_heading, name_item_lem, kind_heading, end_heading}
use Rattle.parser_lexer.specs.Sorts.{sort_number}
use Rattle.parser_lexer.specs.Ahead.{Ahead}
use Rattle.parser_lexer.specs.declared.cursor.Cursor.{Cursor}
use Rattle.parser_values.specs.Reads.{goes_on, Stays, Moves}
use Rattle.std.specs.Prelude.{Ok, Err}
use Rattle.parser_values.specs.declared.error.SyntaxError.{SyntaxError}
use Rattle.parser_values.specs.declared.error.SyntaxError.TheVariants.{NotInGrammar}
use Rattle.parser_values.specs.Reads.{End}
use Rattle.parser_items.specs.Lists.{card_of, put_card, put_cards, Lists}
use Rattle.parser_items.proofs.Writing.{heading_last}
use Rattle.parser.specs.Headings.{Heading, Defines}

module _ (text : List ℕ) where
  -- The alternative that the token ahead begins.
  pub begins : (b : Cursor) → Ahead text b → sort_number b.sort ≤ 54 → (qs : List Symbol) → Among (mark heading ∷ qs) (rule Definition) →
      has (first_set_of (mark heading ∷ qs)) (sort_number b.sort) ≡ true → Heading text b qs b (card_of 0 b.begins 0 0 0)
  unfolding begun
  begins b a s qs i w = record {
    goes = λ ss cs h.
        open_part text b.last (sort_number b.sort) b.begins b.ends a ss 0 cs h Definition (mark heading ∷ qs) s i w ∙
        begin_heading text b.last (sort_number b.sort) b.begins b.ends a (qs ++ ss) 0 cs h s;
    ahead = a;
  }

  -- None does.
  pub refuses : (b : Cursor) → Ahead text b → has (first Definition) (sort_number b.sort) ≡ false → (before after : List ℕ) → Defines text b (Err (NotInGrammar b.begins)) before after
  unfolding nullable
  refuses b a w before after = record {
    cards = [];
    written = tt;
    goes = λ ss cs h. no_part text b.last (sort_number b.sort) b.begins b.ends a ss 0 cs h Definition refl w;
    ready = tt;
  }

  module _ {b c : Cursor} {x : Card} (us : List Symbol) where
    -- A token: k is the cursor behind it, with whatever number of cards.
    pub reads_token : (lo hi : ℕ) (k : Cursor) → Heading text b (one lo hi ∷ us) c x → Ahead text k → k.last ≡ c.ends → hi ≤ 54 →
        within lo hi (sort_number c.sort) ≡ true → Heading text b us k x
    reads_token lo hi k i a e s w = record {
      goes = λ ss cs h.
          i.goes ss cs h ∙
          take_token text c.last (sort_number c.sort) c.begins c.ends i.ahead (us ++ ss) 0 (cs ++ (x ∷ [])) (length cs) lo hi s w (omega arith) ∙
          ap (λ (n : ℕ). standing text n (us ++ ss) 0 (cs ++ (x ∷ [])) (length cs)) (sym e);
      ahead = a;
    }

    pub lacks_token : (lo hi : ℕ) → Heading text b (one lo hi ∷ us) c x → within lo hi (sort_number c.sort) ≡ false → (before after : List ℕ) →
        Defines text b (Err (NotInGrammar c.begins)) before after
    lacks_token lo hi i w before after = record {
      cards = [];
      written = tt;
      goes = λ ss cs h.
          i.goes ss cs h ∙
          no_token_lem text c.last (sort_number c.sort) c.begins c.ends i.ahead (us ++ ss) 0 (cs ++ (x ∷ [])) (length cs) lo hi w;
      ready = tt;
    }

    -- A part: by an alternative that the token ahead begins; by the empty one; by none.
    pub opens : (n : Part) (r : List Symbol) → Heading text b (part n ∷ us) c x → sort_number c.sort ≤ 54 → Among r (rule n) → has (first_set_of r) (sort_number c.sort) ≡ true →
        Heading text b (r ++ us) c x
    opens n r i s j w = record {
      goes = λ ss cs h.
          i.goes ss cs h ∙
          open_part text c.last (sort_number c.sort) c.begins c.ends i.ahead (us ++ ss) 0 (cs ++ (x ∷ [])) (length cs) n r s j w ∙
          ap (λ (y : List Symbol). standing text c.last y 0 (cs ++ (x ∷ [])) (length cs)) (sym (append_assoc r us ss));
      ahead = i.ahead;
    }

    pub skips : (n : Part) → Heading text b (part n ∷ us) c x → Among [] (rule n) → has (first n) (sort_number c.sort) ≡ false → Heading text b us c x
    unfolding empties
    skips n i j w = record {
      goes = λ ss cs h.
          i.goes ss cs h ∙
          skip_part text c.last (sort_number c.sort) c.begins c.ends i.ahead (us ++ ss) 0 (cs ++ (x ∷ [])) (length cs) n [] j refl w;
      ahead = i.ahead;
    }

    pub lacks_part : (n : Part) → Heading text b (part n ∷ us) c x → nullable n ≡ false → has (first n) (sort_number c.sort) ≡ false → (before after : List ℕ) →
        Defines text b (Err (NotInGrammar c.begins)) before after
    lacks_part n i j w before after = record {
      cards = [];
      written = tt;
      goes = λ ss cs h.
          i.goes ss cs h ∙
          no_part text c.last (sort_number c.sort) c.begins c.ends i.ahead (us ++ ss) 0 (cs ++ (x ∷ [])) (length cs) n j w;
      ready = tt;
    }

    -- Its kind, and its name, which stands ahead.
    pub has_kind : (k : ℕ) → Heading text b (mark (kind k) ∷ us) c x → Heading text b us c (of_kind k x)
    has_kind k i = record {
      goes = λ ss cs h. i.goes ss cs h ∙ kind_heading text c.last 0 (us ++ ss) cs h k x [];
      ahead = i.ahead;
    }

    pub has_name : sort_number c.sort ≤ 54 → Heading text b (mark named ∷ us) c x →
        Heading text b us c (named_by (record { sort = (sort_number c.sort); begins = c.begins; size = c.ends - c.begins }) x)
    has_name s i = record {
      goes = λ ss cs h. i.goes ss cs h ∙ name_item_lem text c.last (sort_number c.sort) c.begins c.ends i.ahead (us ++ ss) 0 cs (length cs) x s;
      ahead = i.ahead;
    }

    -- What stands ahead is no name, and need be no token either.
    pub lacks_name : (lo hi : ℕ) → Heading text b (mark named ∷ one lo hi ∷ us) c x → within lo hi (sort_number c.sort) ≡ false → (before after : List ℕ) →
        Defines text b (Err (NotInGrammar c.begins)) before after
    unfolding standing noting level_after
    lacks_name lo hi i w before after = record {
      cards = [];
      written = tt;
      goes = λ ss cs h.
          i.goes ss cs h ∙
          by_mark (from text c.last) (one lo hi ∷ (us ++ ss)) 0 (record { cards = cs ++ (x ∷ []); head = length cs; end = c.last }) named ∙
          no_token_lem text c.last (sort_number c.sort) c.begins c.ends i.ahead (us ++ ss) 0
          (noting named (next_of (from text c.last).tokens) (record { cards = cs ++ (x ∷ []); head = length cs; end = c.last })).cards
          (length cs) lo hi w;
      ready = tt;
    }

  -- What is left of it is read.
  so_far : {b c : Cursor} {x : Card} {before middle : List ℕ} (qs : List Symbol) (r : End) → Heading text b (qs ++ (mark heading_ends ∷ [])) c x →
      (f : Lists qs text c r before middle) (ss : List Symbol) (cs : List Card) (h : ℕ) →
      standing text b.last (part Definition ∷ ss) 0 cs h ≡ goes_on text r (mark heading_ends ∷ ss) 0 (cs ++ (x ∷ f.cards)) (length cs)
  so_far {b} {c} {x} qs r i f ss cs h =
      i.goes ss cs h ∙
      ap (λ (y : List Symbol). standing text c.last y 0 (cs ++ (x ∷ [])) (length cs)) (append_assoc qs (mark heading_ends ∷ []) ss) ∙
      f.goes (mark heading_ends ∷ ss) (cs ++ (x ∷ [])) (length cs) ∙
      ap (λ (y : List Card). goes_on text r (mark heading_ends ∷ ss) 0 y (length cs)) (append_assoc cs (x ∷ []) f.cards)

  -- It ends: its card is written last, at the number before its parts' cards.
  pub ends : {b c k : Cursor} {x : Card} {before middle after : List ℕ} (qs : List Symbol) → Heading text b (qs ++ (mark heading_ends ∷ [])) c x →
      c.cards ≡ b.cards + 1 → Lists qs text c (Ok k) before middle → after ≡ put_card middle card_capacity b.cards (ended k.last x) →
      Defines text b (Ok k) before after
  unfolding put_cards
  ends {b} {c} {k} {x} {before} {middle} {after} qs i n f w = record {
    cards = ended k.last x ∷ f.cards;
    written =
        w ∙
        ap (λ (ws : List ℕ). put_card ws card_capacity b.cards (ended k.last x)) (f.written ∙
        ap (λ (m : ℕ). put_cards before card_capacity m f.cards) n) ∙
        heading_last before card_capacity b.cards (b.cards + 1) (ended k.last x) f.cards (omega arith);
    goes = λ ss cs h. so_far qs (Ok k) i f ss cs h ∙ end_heading text k.last 0 ss cs h x f.cards;
    ready = (f.ready.0, f.ready.1 ∙ omega (arith, n));
  }

  -- Or it is refused.
  pub fails : {b c : Cursor} {x : Card} {e : SyntaxError} {before middle after : List ℕ} (qs : List Symbol) →
      Heading text b (qs ++ (mark heading_ends ∷ [])) c x → Lists qs text c (Err e) before middle → Defines text b (Err e) before after
  fails {e = e} qs i f = record { cards = []; written = tt; goes = λ ss cs h. so_far qs (Err e) i f ss cs h; ready = tt }

  -- ---- As code goes.

  -- The keyword, which picks the alternative of a part: k is the cursor behind it.
  pub by_keyword : {b c : Cursor} {p : ℕ} (n : Part) (s j : ℕ) (us : List Symbol) (k : Cursor) →
      Heading text b (part n ∷ mark heading_ends ∷ []) c (card_of 0 p 0 0 0) → sort_number c.sort ≡ s → s ≤ 54 → Among (one s s ∷ mark (kind j) ∷ us) (rule n) →
      Ahead text k → k.last ≡ c.ends → Heading text b (us ++ (mark heading_ends ∷ [])) k (card_of j p 0 0 0)
  unfolding of_kind first_set_of has
  by_keyword {b} {c} n s j us k i e l m a f =
      let w : within s s (sort_number c.sort) ≡ true = within_is s s (sort_number c.sort) (omega arith) (omega arith) in
      has_kind (us ++ (mark heading_ends ∷ [])) j
      (reads_token (mark (kind j) ∷ (us ++ (mark heading_ends ∷ []))) s s k
      (opens (mark heading_ends ∷ []) n (one s s ∷ mark (kind j) ∷ us) i (omega arith) m (rw w)) a f l w)

  -- The name: k is the cursor behind it.
  pub by_name : {b c : Cursor} {j p : ℕ} (lo hi : ℕ) (us : List Symbol) (k : Cursor) → Heading text b (mark named ∷ one lo hi ∷ us) c (card_of j p 0 0 0) →
      hi ≤ 54 → within lo hi (sort_number c.sort) ≡ true → Ahead text k → k.last ≡ c.ends → Heading text b us k (card_of j p 0 c.begins (c.ends - c.begins))
  unfolding named_by
  by_name {b} {c} lo hi us k i s w a f = reads_token us lo hi k (has_name (one lo hi ∷ us) (omega (arith, (within_bounds lo hi (sort_number c.sort) w).1)) i) a f s w

  -- How a definition begins: with the word `extend`; with a description; with its keyword. Behind the first token, k is the cursor there.
  pub extends : (b k : Cursor) → Ahead text b → sort_number b.sort ≡ 28 → Ahead text k → k.last ≡ b.ends →
      Heading text b (part Extended ∷ mark heading_ends ∷ []) k (card_of 0 b.begins 0 0 0)
  unfolding rule has first_set_of within
  extends b k a e f l =
      let qs = extend ∷ part Extended ∷ mark heading_ends ∷ [] in
      let begun = begins b a (omega arith) qs (there here) (ap (has (first_set_of (mark heading ∷ qs))) e) in
      reads_token (part Extended ∷ mark heading_ends ∷ []) 28 28 k begun f l (omega arith) (ap (within 28 28) e)

  describing : List Symbol
  describing = part Description? ∷ part Described ∷ mark heading_ends ∷ []

  pub describes : (b k : Cursor) → Ahead text b → sort_number b.sort ≡ 16 → Ahead text k → k.last ≡ b.ends →
      Heading text b (part Described ∷ mark heading_ends ∷ []) k (card_of 0 b.begins 0 0 0)
  unfolding describing rule has first_set_of first nullable within
  describes b k a e f l =
      let begun = begins b a (omega arith) describing here (ap (has (first_set_of (mark heading ∷ describing))) e) in
      let opened = opens (part Described ∷ mark heading_ends ∷ []) Description? (string ∷ []) begun (omega arith) here (ap (has (first_set_of (string ∷ []))) e) in
      reads_token (part Described ∷ mark heading_ends ∷ []) 16 16 k opened f l (omega arith) (ap (within 16 16) e)

  pub undescribed : (b : Cursor) → Ahead text b → 20 ≤ (sort_number b.sort) → sort_number b.sort ≤ 27 →
      Heading text b (part Described ∷ mark heading_ends ∷ []) b (card_of 0 b.begins 0 0 0)
  unfolding describing rule has first_set_of first nullable
  undescribed b a l u =
      let w : within 20 27 (sort_number b.sort) ≡ true = within_is 20 27 (sort_number b.sort) l u in
      let n : within 16 16 (sort_number b.sort) ≡ false = above 16 16 (sort_number b.sort) (omega arith) in
      skips (part Described ∷ mark heading_ends ∷ []) Description? (begins b a (omega arith) describing here (rw (n, w))) (there here) (rw n)

  -- None of these.
  pub undefined : (b : Cursor) → Ahead text b → (sort_number b.sort ≡ 16 → ⊥) → within 20 28 (sort_number b.sort) ≡ false → (before after : List ℕ) →
      Defines text b (Err (NotInGrammar b.begins)) before after
  unfolding has first
  undefined b a n w before after = refuses b a (rw (other 16 (sort_number b.sort) n, w)) before after

-- ---- What is promised of a cursor's own text.

pub heading_in : {text : List ℕ} {b k : Cursor} {us : List Symbol} {x : Card} {r : End} {before after : List ℕ} → k.text.now ≡ text →
    (Heading k.text.now b us k x → Defines k.text.now b r before after) × Stays k.text.now k r →
    (Heading text b us k x → Defines text b r before after) × Stays text k r
heading_in {text} {b} {k} {us} {x} {r} {before} {after} i f =
    subst (λ (t : List ℕ). (Heading t b us k x → Defines t b r before after) × Stays t k r) i f

pub definition_in : {text : List ℕ} {b k : Cursor} {us : List Symbol} {x : Card} {r : End} {before after : List ℕ} → k.text.now ≡ text →
    (Heading k.text.now b us k x → Defines k.text.now b r before after) × Moves k.text.now k r →
    (Heading text b us k x → Defines text b r before after) × Moves text k r
definition_in {text} {b} {k} {us} {x} {r} {before} {after} i f =
    subst (λ (t : List ℕ). (Heading t b us k x → Defines t b r before after) × Moves t k r) i f

pub next_in : {text : List ℕ} {k : Cursor} {r : End} {before after : List ℕ} → k.text.now ≡ text →
    (Ahead k.text.now k → Defines k.text.now k r before after) × Moves k.text.now k r → (Ahead text k → Defines text k r before after) × Moves text k r
next_in {text} {k} {r} {before} {after} i f = subst (λ (t : List ℕ). (Ahead t k → Defines t k r before after) × Moves t k r) i f
