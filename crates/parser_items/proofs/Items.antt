-- What functions promise of items and of lists of items, joined as their code goes.
use mathlib.Core.Path.{◌≡◌, refl, sym, ap, subst, ◌∙◌}
use mathlib.Core.List.{List, [], ◌∷◌, ◌++◌}
use mathlib.Core.Bool.{true}
use Prim.Native.Nat.{ℕ, ◌+◌, ◌≤◌}
use native.Mathlib.Omega.{arith}
use Rattle.definition.specs.Lists.{Among}
use Rattle.definition.specs.Grammar.{Symbol, one, part, mark, Part, rule, item, item_ends, named}
use Rattle.definition.specs.GrammarSets.{first}
use Rattle.definition.specs.Machine.{has, first_set_of}
use Rattle.definition.specs.Cards.{Card}
use Rattle.definition.specs.ItemCards.{begun, named_by, ended}
use Rattle.definition.specs.Refusals.{card_capacity}
use Rattle.parser_laws.proofs.Ahead.{token_of}
use Rattle.parser_lexer.specs.Sorts.{sort_number}
use Rattle.parser_lexer.specs.Ahead.{Ahead, Next}
use Rattle.parser_lexer.specs.declared.cursor.Cursor.{Cursor}
use Rattle.std.specs.Prelude.{Ok, Err}
use Rattle.parser_values.specs.declared.error.SyntaxError.{SyntaxError}
use Rattle.parser_values.specs.Reads.{End, Must, May, Flat}
use Rattle.parser_values.proofs.Readers.{Repeated, may, must_in, may_in, flat, token}
pub use Rattle.parser_values.proofs.Readers.{stays, stays_on}
use Rattle.parser_values.proofs.Joining.{skips}
use Rattle.parser_items.specs.Lists.{put_card, item_card, OneMore, Lists, MustList, MayList, Listing, Item}
use Rattle.parser_items.proofs.Beginning.{wanting, Sole}
use Rattle.parser_items.proofs.Joining as joining

-- In the middle of an item that begins at b, with the card x so far: the symbols qs are left from c on, and c lies at m or behind.
abbrev pub InItem : ℕ → List Symbol → List ℕ → Cursor → List Symbol → Cursor → Card → Type 0
InItem m ps text b qs c x = (Ahead text b → Item ps text b qs c x) × (c.text.now ≡ text) × (m ≤ c.last)

-- The same token stands ahead of a cursor that differs in its cards alone.
ahead_as : {text : List ℕ} (b k r : Cursor) → Ahead text k → OneMore b k r → Ahead text r
ahead_as b k r a w = rw (w.1, w.2, w.3, w.4) a

-- In the middle of a list that begins at b.
abbrev pub InList : List Symbol → List ℕ → Cursor → List ℕ → List Symbol → Cursor → List ℕ → Type 0
InList ps text b before qs c after = (Ahead text b → Listing ps text b before qs c after) × (c.text.now ≡ text) × (b.last ≤ c.last)

-- What is promised of a cursor's own text.
pub list_in : {text : List ℕ} {k : Cursor} {ps : List Symbol} {e : End} {before after : List ℕ} → k.text.now ≡ text →
    MayList ps k.text.now k e before after → MayList ps text k e before after
list_in {text} {k} {ps} {e} {before} {after} i f = subst (λ (t : List ℕ). MayList ps t k e before after) i f

pub own_in : {text : List ℕ} {k : Cursor} {ps : List Symbol} {e : End} {before after : List ℕ} → k.text.now ≡ text →
    MayList ps text k e before after → MayList ps k.text.now k e before after
own_in {text} {k} {ps} {e} {before} {after} i f = subst (λ (t : List ℕ). MayList ps t k e before after) (sym i) f

module _ (text : List ℕ) where
  pub may_list : {c : Cursor} {before after : List ℕ} (ps : List Symbol) (e : End) → MustList ps text c e before after → MayList ps text c e before after
  may_list {c} ps e f = (f.0, stays text c e f.1)

  -- What has no card.
  pub no_cards : {c : Cursor} {e : End} (ps : List Symbol) (before : List ℕ) → May ps text c 0 e → MayList ps text c e before before
  no_cards ps before f = (λ a. joining.unlisted text before (f.0 a), f.1)

  pub cardless : {c : Cursor} {e : End} (ps : List Symbol) (before : List ℕ) → May ps c.text.now c 0 e → MayList ps c.text.now c e before before
  cardless {c} ps before f = (λ a. joining.unlisted c.text.now before (f.0 a), f.1)

  -- What is promised of a token, of any level, at level 0.
  pub must : {c : Cursor} {e : End} (ps : List Symbol) → Flat ps c.text.now c e → Must ps c.text.now c 0 e
  must ps f = flat 0 (omega arith) f

  pub taken : {c : Cursor} (ps : List Symbol) (e : End) → Flat ps c.text.now c e → May ps c.text.now c 0 e
  taken ps e f = may (must ps f)

  -- ---- An item.

  pub starts : {b : Cursor} (k : ℕ) (qs : List Symbol) → wanting qs ≡ true → b.text.now ≡ text →
      InItem b.last (mark (item k) ∷ qs) text b qs b (begun k b.begins)
  starts {b} k qs w l = (λ a. joining.item_begins text b a k qs w, l, omega arith)

  -- Symbols of it are read, with a token at least; or maybe none.
  pub past : {b c k : Cursor} {x : Card} {m : ℕ} (ps qs us : List Symbol) → InItem m ps text b (qs ++ us) c x → Must qs c.text.now c 0 (Ok k) →
      InItem (m + 1) ps text b us k x
  past {b} {c} {k} {x} {m} ps qs us i f =
      let g : Must qs text c 0 (Ok k) = must_in i.1 f in
      (λ a. let j = i.0 a in joining.item_reads text ps qs us j (g.0 j.ahead), g.1.0, omega (arith, i.2, g.1.1))

  pub on : {b c k : Cursor} {x : Card} {m : ℕ} (ps qs us : List Symbol) → InItem m ps text b (qs ++ us) c x → May qs c.text.now c 0 (Ok k) →
      InItem m ps text b us k x
  on {b} {c} {k} {x} {m} ps qs us i f =
      let g : May qs text c 0 (Ok k) = may_in i.1 f in
      (λ a. let j = i.0 a in joining.item_reads text ps qs us j (g.0 j.ahead), g.1.0, omega (arith, i.2, g.1.1))

  -- The token ahead is its name.
  pub called : {b c : Cursor} {x : Card} {m : ℕ} (ps us : List Symbol) → wanting us ≡ true → InItem m ps text b (mark named ∷ us) c x →
      InItem m ps text b us c (named_by (token_of (sort_number c.sort) c.begins c.ends) x)
  called ps us w i = (λ a. joining.item_named text ps us w (i.0 a), i.1, i.2)

  -- It is refused.
  pub fails : {b c : Cursor} {x : Card} {m : ℕ} {e : SyntaxError} (before : List ℕ) (ps qs us : List Symbol) → InItem m ps text b (qs ++ us) c x →
      May qs c.text.now c 0 (Err e) → MustList ps text b (Err e) before before
  fails {b} {c} {e = e} before ps qs us i f =
      let g : May qs text c 0 (Err e) = may_in i.1 f in
      (λ a. let j = i.0 a in joining.item_refused text before ps qs us e j (g.0 j.ahead), g.1)

  -- It ends, and its card is written: its name was the token ahead of n.
  pub ends : {b k r : Cursor} {before after : List ℕ} {m : ℕ} (ps : List Symbol) (kind : ℕ) (n : Cursor) →
      InItem (m + 1) ps text b (mark item_ends ∷ []) k (named_by (token_of (sort_number n.sort) n.begins n.ends) (begun kind b.begins)) → b.last ≤ m →
      (after ≡ put_card before card_capacity b.cards (item_card kind b n k.last)) × OneMore b k r → MustList ps text b (Ok r) before after
  unfolding begun named_by ended
  ends {b} {k} {r} {before} {after} {m} ps kind n i l w = (
    λ a. let j = i.0 a in joining.item_ends_lem text ps r (ahead_as b k r j.ahead w.1) (w.1.4) (w.1.5) j w.0,
    (w.1.0 ∙ i.1, omega (arith, i.2, w.1.4)),
  )

  -- ---- A list.

  pub begins : {b : Cursor} (ps : List Symbol) (before : List ℕ) → b.text.now ≡ text → InList ps text b before ps b before
  begins {b} ps before l = (λ a. joining.at_first text ps b before a, l, omega arith)

  pub list_on : {b c k : Cursor} {before middle after : List ℕ} (ps qs us : List Symbol) → InList ps text b before (qs ++ us) c middle →
      MayList qs c.text.now c (Ok k) middle after → InList ps text b before us k after
  list_on {b} {c} {k} {before} {middle} {after} ps qs us i f =
      let g : MayList qs text c (Ok k) middle after = list_in i.1 f in
      (λ a. let j = i.0 a in joining.further text ps qs us j (g.0 j.ahead), g.1.0, omega (arith, i.2, g.1.1))

  pub list_ends : {b c : Cursor} {before middle after : List ℕ} (ps qs : List Symbol) (e : End) → InList ps text b before qs c middle →
      MayList qs c.text.now c e middle after → MayList ps text b e before after
  list_ends {b} {c} {middle = middle} {after} ps qs e i f =
      let g : MayList qs text c e middle after = list_in i.1 f in
      (λ a. let j = i.0 a in joining.finished text ps qs j (g.0 j.ahead), stays_on text b c e i.2 g.1)

  pub list_fails : {b c : Cursor} {before middle after : List ℕ} {e : SyntaxError} (ps qs us : List Symbol) →
      InList ps text b before (qs ++ us) c middle → MayList qs c.text.now c (Err e) middle after → MayList ps text b (Err e) before after
  list_fails {c = c} {e = e} ps qs us i f = list_ends ps (qs ++ us) (Err e) i (λ a. joining.or_refused_lem c.text.now qs us e (f.0 a), f.1)

  -- ---- A part: by its only alternative, or by that which the token ahead begins; or left out.

  pub alone : {c : Cursor} {e : End} {before after : List ℕ} {P : Type 0} (n : Part) (r : List Symbol) → Sole n r →
      (Ahead text c → Lists r text c e before after) × P → (Ahead text c → Lists (part n ∷ []) text c e before after) × P
  alone n r t f = (λ a. joining.alone text a n r t (f.0 a), f.1)

  pub chosen : {c : Cursor} {e : End} {before after : List ℕ} {P : Type 0} (n : Part) (r : List Symbol) (x : ℕ) → Among r (rule n) →
      has (first_set_of r) x ≡ true → x ≤ 54 → sort_number c.sort ≡ x → (Ahead text c → Lists r text c e before after) × P →
      (Ahead text c → Lists (part n ∷ []) text c e before after) × P
  chosen n r x i w s k f = (λ a. joining.opens text a n r (omega arith) i (ap (has (first_set_of r)) k ∙ w) (f.0 a), f.1)

  pub list_chosen : {b c : Cursor} {before after : List ℕ} (ps us : List Symbol) (n : Part) (r : List Symbol) (x : ℕ) → Among r (rule n) →
      has (first_set_of r) x ≡ true → x ≤ 54 → sort_number c.sort ≡ x → InList ps text b before (part n ∷ us) c after → InList ps text b before (r ++ us) c after
  list_chosen ps us n r x i w s k f = (λ a. joining.opened text ps us n r (omega arith) i (ap (has (first_set_of r)) k ∙ w) (f.0 a), f.1, f.2)

  -- ---- A repeated part before its closer.
  module _ (n m : Part) (y : ℕ) (t : Repeated n m y) where
    pub again : {b c : Cursor} {before after : List ℕ} (ps us : List Symbol) → (sort_number c.sort ≡ y → ⊥) → InList ps text b before (part m ∷ one y y ∷ us) c after →
        InList ps text b before (part n ∷ part m ∷ one y y ∷ us) c after
    again ps us k i = (λ a. joining.once_more text ps us n m t.more t.none t.never_empty t.begins t.tokens y k (i.0 a), i.1, i.2)

    pub closes : {b c k : Cursor} {before after : List ℕ} (ps : List Symbol) → sort_number c.sort ≡ y → Next c.text.now c.ends c.cards k →
        InList ps text b before (part m ∷ one y y ∷ []) c after → MayList ps text b (Ok k) before after
    closes {b} {c} {k} {before} {after} ps e x i =
        let skip : May (part m ∷ []) c.text.now c 0 (Ok c) = (λ a. skips c.text.now 0 c a m t.none (ap (has (first m)) e ∙ t.closed), (refl, omega arith)) in
        let close : Must (one y y ∷ []) c.text.now c 0 (Ok k) = token y e t.closer (omega arith) refl x in
        let left = list_on ps (part m ∷ []) (one y y ∷ []) i (cardless (part m ∷ []) after skip) in
        list_ends ps (one y y ∷ []) (Ok k) left (cardless (one y y ∷ []) after (may close))
