-- One law for each step of code that carries along what stands ahead of it: read a token, open a part, leave a part out, refuse, note a mark.
use mathlib.Core.Path.{◌≡◌, refl, sym, ap, ◌∙◌}
use mathlib.Core.List.{List, [], ◌∷◌, ◌++◌}
use mathlib.Core.Bool.{Bool, true, false}
use mathlib.Core.Option.{Option, none, some}
use Prim.Native.Nat.{ℕ, ◌+◌, ◌-◌, ◌≤◌, ◌<◌}
use native.Mathlib.Omega.{arith}
use borrow.Author.Tests.{leb-true, leb-false}
use lib.Dec.{leb}
use lib.ListN.{length}
use Rattle.definition.specs.Lists.{choose, Among}
use Rattle.definition.specs.Grammar.{Symbol, one, part, mark, Part, rule, within, heading, kind, heading_ends, item, item_ends, named, deeper, shallower}
use Rattle.definition.specs.GrammarSets.{nullable, first}
use Rattle.definition.specs.Derivation.{Token}
use Rattle.definition.specs.Lexical.{Lexed}
use Rattle.definition.specs.Machine.{has, first_set_of, empties, pick, ahead}
use Rattle.definition.specs.Cards.{Card}
use Rattle.definition.specs.ItemCards.{Listing, passed, noting, level_after, begun, of_kind, ended, named_by}
use Rattle.definition.specs.Reading.{place_at}
use Rattle.parser_laws.specs.Verdict.{passes, fails, verdict, next_of}
use Rattle.parser_laws.specs.Standing.{from, standing, AheadOf}
use Rattle.parser_laws.proofs.Tests.{clash, within_bounds, subset, subset_has}
use Rattle.parser_laws.proofs.Theory.{has_left}
use Rattle.parser_laws.proofs.Steps.{by_part, by_stuck, by_token, by_level, by_wrong, by_missing, by_mark, by_end, by_unreadable, by_surplus}
use Rattle.parser_laws.proofs.Picking.{picks, skips, rejects, other}
use Rattle.parser_laws.proofs.Items.{item_begins, item_named, item_ends_lem, heading_begins, heading_kind, heading_ends_lem}

-- The token that the numbers tell.
abbrev pub token_of : ℕ → ℕ → ℕ → Token
token_of s b e = record { sort = s; begins = b; size = e - b }

module _ (text : List ℕ) (at s b e : ℕ) (a : AheadOf text at s b e) where
  -- A token, the end of the text, or nothing readable.
  by_cases : {P : Type 0} → (s ≤ 54 → P) → (s ≡ 55 → P) → (s ≡ 56 → P) → P
  by_cases {P} f g k = go (leb s 54) refl (leb s 55) refl
    where
      go : (t : Bool) → leb s 54 ≡ t → (u : Bool) → leb s 55 ≡ u → P
      go true p u q = f (leb-true s 54 p)
      go false p true q = g (omega (arith, leb-false s 54 p, leb-true s 55 q))
      go false p false q = k (omega (arith, leb-false s 55 q, a.told))

  some_ahead : s ≤ 54 → ahead (from text at).tokens ≡ some s
  some_ahead k = ap (λ (l : Lexed). ahead l.tokens) (a.token k)

  none_ahead : (l : Lexed) → from text at ≡ l → l.tokens ≡ [] → (t : ℕ) → ahead (from text at).tokens ≡ some t → ⊥
  none_ahead l i j t k =
      let m : ahead (from text at).tokens ≡ none = ap (λ (x : Lexed). ahead x.tokens) i ∙ ap ahead j in
      let z : ◌≡◌ {A = ℕ} 0 1 = cc in
      omega arith

  ahead_is : (t : ℕ) → ahead (from text at).tokens ≡ some t → s ≡ t
  ahead_is t i =
      by_cases
      (λ k. let m = some_ahead k in cc)
      (λ k. absurd (none_ahead _ (a.ended k) refl t i))
      (λ k. absurd (none_ahead _ (a.unread k) refl t i))

  place_is : place_at (from text at).tokens (from text at).ends ≡ b
  place_is =
      by_cases
      (λ k. ap (λ (l : Lexed). place_at l.tokens l.ends) (a.token k))
      (λ k. ap (λ (l : Lexed). place_at l.tokens l.ends) (a.ended k))
      (λ k. ap (λ (l : Lexed). place_at l.tokens l.ends) (a.unread k))

  next_is : s ≤ 54 → next_of (from text at).tokens ≡ token_of s b e
  next_is k = ap (λ (l : Lexed). next_of l.tokens) (a.token k)

  module _ (ss : List Symbol) (level : ℕ) (cs : List Card) (h : ℕ) where
    abbrev listing : Listing
    listing = record { cards = cs; head = h; end = at }

    -- A token that is wanted.
    pub take_token : (lo hi : ℕ) → hi ≤ 54 → within lo hi s ≡ true → level ≤ 32 → standing text at (one lo hi ∷ ss) level cs h ≡ standing text e ss level cs h
    unfolding standing passed
    take_token lo hi i w l =
        let k = within_bounds lo hi s w in
        let z : b + (e - b) ≡ e = omega (arith, a.spans) in
        ap (λ (x : Lexed). verdict x (one lo hi ∷ ss) level listing) (a.token (omega (arith, k.1))) ∙
        by_token (from text e) ss level listing (token_of s b e) lo hi w l ∙
        ap (λ (n : ℕ). verdict (from text e) ss level (record { cards = cs; head = h; end = n })) z

    -- The opener of a 33rd level.
    pub open_deep : (lo hi : ℕ) → hi ≤ 54 → within lo hi s ≡ true → 32 < level → standing text at (one lo hi ∷ ss) level cs h ≡ fails 30 b
    unfolding standing
    open_deep lo hi i w l =
        let k = within_bounds lo hi s w in
        ap (λ (x : Lexed). verdict x (one lo hi ∷ ss) level listing) (a.token (omega (arith, k.1))) ∙
        by_level (from text e) ss level listing (token_of s b e) lo hi w l

    -- A token that is not wanted, or none.
    pub no_token_lem : (lo hi : ℕ) → within lo hi s ≡ false → standing text at (one lo hi ∷ ss) level cs h ≡ fails 29 b
    unfolding standing
    no_token_lem lo hi w =
        by_cases
        (λ k. ap (λ (x : Lexed). verdict x (one lo hi ∷ ss) level listing) (a.token k) ∙ by_wrong (from text e) ss level listing (token_of s b e) lo hi w)
        (λ k. ap (λ (x : Lexed). verdict x (one lo hi ∷ ss) level listing) (a.ended k) ∙ by_missing b level listing false lo hi ss)
        (λ k. ap (λ (x : Lexed). verdict x (one lo hi ∷ ss) level listing) (a.unread k) ∙ by_missing b level listing true lo hi ss)

    -- The alternative that the token begins.
    pub open_part : (n : Part) (r : List Symbol) → s ≤ 54 → Among r (rule n) → has (first_set_of r) s ≡ true →
        standing text at (part n ∷ ss) level cs h ≡ standing text at (r ++ ss) level cs h
    unfolding standing
    open_part n r k i w = by_part (from text at) ss level listing n r (ap (λ (o : Option ℕ). pick o n) (some_ahead k) ∙ picks n s r i w)

    -- The empty alternative, where none begins with the token.
    pub skip_part : (n : Part) (r : List Symbol) → Among r (rule n) → empties r ≡ true → has (first n) s ≡ false →
        standing text at (part n ∷ ss) level cs h ≡ standing text at (r ++ ss) level cs h
    unfolding standing
    skip_part n r i j w = by_part (from text at) ss level listing n r (skips n (ahead (from text at).tokens) r i j
        (λ t k. ap (has (first n)) (sym (ahead_is t k)) ∙ w))

    -- None.
    pub no_part : (n : Part) → nullable n ≡ false → has (first n) s ≡ false → standing text at (part n ∷ ss) level cs h ≡ fails 29 b
    unfolding standing
    no_part n j w =
        by_stuck (from text at) ss level listing n (rejects n (ahead (from text at).tokens) j (λ t k. ap (has (first n)) (sym (ahead_is t k)) ∙ w)) ∙
        ap (fails 29) place_is

    -- ---- Marks before the token.

    -- A part of kind k begins: its card comes last.
    pub begin_item : (k : ℕ) → s ≤ 54 → standing text at (mark (item k) ∷ ss) level cs h ≡ standing text at ss level (cs ++ (begun k b ∷ [])) h
    unfolding standing
    begin_item k i =
        item_begins (from text at) ss level cs h at k ∙
        ap (λ (t : Token). verdict (from text at) ss level (record { cards = cs ++ (begun k t.begins ∷ []); head = h; end = at })) (next_is i)

    -- A heading begins: its card comes last, and its number is kept.
    pub begin_heading : s ≤ 54 → standing text at (mark heading ∷ ss) level cs h ≡ standing text at ss level (cs ++ (begun 0 b ∷ [])) (length cs)
    unfolding standing
    begin_heading i =
        heading_begins (from text at) ss level cs h at ∙
        ap (λ (t : Token). verdict (from text at) ss level (record { cards = cs ++ (begun 0 t.begins ∷ []); head = length cs; end = at })) (next_is i)

    -- The token is the name of the item whose card is last.
    pub name_item_lem : (c : Card) → s ≤ 54 → standing text at (mark named ∷ ss) level (cs ++ (c ∷ [])) h ≡
        standing text at ss level (cs ++ (named_by (token_of s b e) c ∷ [])) h
    unfolding standing
    name_item_lem c i =
        item_named (from text at) ss level cs h at c ∙
        ap (λ (t : Token). verdict (from text at) ss level (record { cards = cs ++ (named_by t c ∷ []); head = h; end = at })) (next_is i)

  -- ---- The end of a text.
  module _ (level : ℕ) (cs : List Card) (h : ℕ) where
    pub at_whole : s ≡ 55 → standing text at [] level cs h ≡ passes (record { cards = cs; head = h; end = at })
    unfolding standing
    at_whole k = ap (λ (x : Lexed). verdict x [] level (record { cards = cs; head = h; end = at })) (a.ended k) ∙
        by_end b level (record { cards = cs; head = h; end = at })

    pub not_whole : (s ≡ 55 → ⊥) → standing text at [] level cs h ≡ fails 29 b
    unfolding standing
    not_whole n =
        by_cases
        (λ k. ap (λ (x : Lexed). verdict x [] level (record { cards = cs; head = h; end = at })) (a.token k) ∙
        by_surplus (from text e) level (record { cards = cs; head = h; end = at }) (token_of s b e))
        (λ k. absurd (n k))
        (λ k. ap (λ (x : Lexed). verdict x [] level (record { cards = cs; head = h; end = at })) (a.unread k) ∙
        by_unreadable b level (record { cards = cs; head = h; end = at }))

  -- A repeated part before its closer, where the closer does not stand there: the part comes first. (If it does not begin so either, both are
  -- refused at the same place.)
  module _ (ss : List Symbol) (level : ℕ) (cs : List Card) (h : ℕ) where
    pub repeats : (n m : Part) → Among (part n ∷ part m ∷ []) (rule m) → Among [] (rule m) → nullable n ≡ false → subset (first m) (first n) ≡ true →
        subset (first n) ((0, 54) ∷ []) ≡ true → (c : ℕ) → (s ≡ c → ⊥) →
        standing text at (part m ∷ one c c ∷ ss) level cs h ≡ standing text at (part n ∷ part m ∷ one c c ∷ ss) level cs h
    unfolding empties first_set_of has
    repeats n m i j u f g c z = go (has (first n) s) refl
      where
        not_so : has (first n) s ≡ false → (t : Bool) → has (first m) s ≡ t → t ≡ false
        not_so w true k = clash (sym w ∙ subset_has (first m) (first n) s f k)
        not_so w false k = refl

        small : (t : Bool) → within 0 54 s ≡ t → choose t true false ≡ true → s ≤ 54
        small true k p = (within_bounds 0 54 s k).1
        small false k p = clash p

        go : (t : Bool) → has (first n) s ≡ t → standing text at (part m ∷ one c c ∷ ss) level cs h ≡
            standing text at (part n ∷ part m ∷ one c c ∷ ss) level cs h
        go true w = open_part (one c c ∷ ss) level cs h m (part n ∷ part m ∷ []) (small (within 0 54 s) refl (subset_has (first n) ((0, 54) ∷ []) s g w)) i
            (has_left (first n) _ s w)
        go false w =
            skip_part (one c c ∷ ss) level cs h m [] j refl (not_so w (has (first m) s) refl) ∙
            no_token_lem ss level cs h c c (other c s z) ∙
            sym (no_part (part m ∷ one c c ∷ ss) level cs h n u w)

module _ (text : List ℕ) (at level : ℕ) (ss : List Symbol) (cs : List Card) (h : ℕ) where
  pub go_deeper : standing text at (mark deeper ∷ ss) level cs h ≡ standing text at ss (level + 1) cs h
  unfolding standing noting level_after
  go_deeper = by_mark (from text at) ss level (record { cards = cs; head = h; end = at }) deeper

  pub go_back : standing text at (mark shallower ∷ ss) level cs h ≡ standing text at ss (level - 1) cs h
  unfolding standing noting level_after
  go_back = by_mark (from text at) ss level (record { cards = cs; head = h; end = at }) shallower

  -- The item whose card is last ends with the token just read.
  pub end_item : (c : Card) → standing text at (mark item_ends ∷ ss) level (cs ++ (c ∷ [])) h ≡ standing text at ss level (cs ++ (ended at c ∷ [])) h
  unfolding standing
  end_item c = item_ends_lem (from text at) ss level cs h at c

  -- The kind of a heading whose card is after the cards cs and before its parts' cards ks; its end.
  pub kind_heading : (k : ℕ) (c : Card) (ks : List Card) → standing text at (mark (kind k) ∷ ss) level (cs ++ (c ∷ ks)) (length cs) ≡
      standing text at ss level (cs ++ (of_kind k c ∷ ks)) (length cs)
  unfolding standing
  kind_heading k c ks = heading_kind (from text at) ss level cs h at k c ks

  pub end_heading : (c : Card) (ks : List Card) → standing text at (mark heading_ends ∷ ss) level (cs ++ (c ∷ ks)) (length cs) ≡
      standing text at ss level (cs ++ (ended at c ∷ ks)) (length cs)
  unfolding standing
  end_heading c ks = heading_ends_lem (from text at) ss level cs h at c ks
