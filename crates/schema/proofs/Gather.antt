-- The walk over the rows finds what is defined.
use mathlib.Core.Path.{◌≡◌, refl, sym, ◌∙◌, ap}
use mathlib.Core.List.{List, [], ◌∷◌, ◌++◌, map, append-nil}
use mathlib.Core.Bool.{Bool, true, false, ◌&&◌}
use mathlib.Core.Option.{Option, none, some}
use Prim.Native.Nat.{ℕ}
use Rattle.definition.specs.Lists.{choose, found, any, filter, firsts, flat_map}
use Rattle.definition.specs.Headings.{NamedCard}
use Rattle.definition.specs.Catalogue.{Row}
use Rattle.definition.specs.LentRows.{is_row_named, is_type_row, is_type_row_named}
use Rattle.definition.specs.Lookups.{Block, blocks, first_types, is_block_named, same_block, is_row_of, is_part_named, Implementing, same_interface}
use Rattle.definition.specs.Lookups.{implementing, implementing_of, all_implementing}
use Rattle.definition.proofs.Lists.{filter_nil, filter_yes, filter_no, filter_append, same_name_eq}
use Rattle.schema_rows.proofs.Walk.{any_snoc}
use Rattle.schema_rows.proofs.SearchLaws.{blocks_type, blocks_under, blocks_nil}
use Rattle.schema.specs.Gather.{news, gather}
use Rattle.schema.specs.Owners.{named}

-- ---- Lists.

module _ {A : Type 0} where
  module _ (alike : A → A → Bool) where
    pub news_nil : (pre : List A) → news alike pre [] ≡ []
    unfolding news
    news_nil pre = refl

    pub news_old : (pre : List A) (x : A) (xs : List A) → any (alike x) pre ≡ true → news alike pre (x ∷ xs) ≡ news alike (pre ++ (x ∷ [])) xs
    unfolding news
    news_old pre x xs e = rw e

    pub news_new : (pre : List A) (x : A) (xs : List A) → any (alike x) pre ≡ false → news alike pre (x ∷ xs) ≡ x ∷ news alike (pre ++ (x ∷ [])) xs
    unfolding news
    news_new pre x xs e = rw e

    -- Where things that are alike are alike to the same things, it does not matter whether what was not kept is looked at.
    module _ (same : (x y : A) → alike x y ≡ true → alike x ≡ alike y) where
      news_from : (seen pre xs : List A) → ((x : A) → any (alike x) seen ≡ any (alike x) pre) → news alike pre xs ≡ firsts alike seen xs
      unfolding firsts
      news_from seen pre [] h = news_nil pre
      news_from seen pre (x ∷ xs) h =
          go (any (alike x) seen) refl (news_from seen (pre ++ (x ∷ [])) xs)
          (news_from (seen ++ (x ∷ [])) (pre ++ (x ∷ [])) xs
          (λ y. any_snoc (alike y) seen x ∙ ap (choose (alike y x) true) (h y) ∙ sym (any_snoc (alike y) pre x)))
        where
          go : (b : Bool) → any (alike x) seen ≡ b →
              (((y : A) → any (alike y) seen ≡ any (alike y) (pre ++ (x ∷ []))) → news alike (pre ++ (x ∷ [])) xs ≡ firsts alike seen xs) →
              news alike (pre ++ (x ∷ [])) xs ≡ firsts alike (seen ++ (x ∷ [])) xs →
              news alike pre (x ∷ xs) ≡ choose b (firsts alike seen xs) (x ∷ firsts alike (seen ++ (x ∷ [])) xs)
          go true e skip kept = news_old pre x xs (sym (h x) ∙ e) ∙ skip (λ y. old y (alike y x) refl)
            where
              old : (y : A) (b : Bool) → alike y x ≡ b → any (alike y) seen ≡ any (alike y) (pre ++ (x ∷ []))
              old y true t =
                  ap (λ (p : A → Bool). any p seen) (same y x t) ∙ e ∙ sym (any_snoc (alike y) pre x ∙ ap (λ (b : Bool). choose b true (any (alike y) pre)) t)
              old y false t = h y ∙ sym (any_snoc (alike y) pre x ∙ ap (λ (b : Bool). choose b true (any (alike y) pre)) t)
          go false e skip kept = news_new pre x xs (sym (h x) ∙ e) ∙ ap (λ (l : List A). x ∷ l) kept

      pub news_firsts : (xs : List A) → news alike [] xs ≡ firsts alike [] xs
      news_firsts xs = news_from [] [] xs (λ x. refl)

-- ---- Names.

module _ (cs : List NamedCard) where
  pub interfaces_same : (r s : Row) → same_interface cs r s ≡ true → same_interface cs r ≡ same_interface cs s
  unfolding same_interface is_row_named
  interfaces_same r s e = let q : named cs r ≡ named cs s = same_name_eq (named cs r) (named cs s) e in ap (is_row_named cs) q

  blocks_same : (b d : Block) → same_block cs b d ≡ true → same_block cs b ≡ same_block cs d
  unfolding same_block is_block_named is_row_named
  blocks_same b d e = let q : named cs b.head ≡ named cs d.head = same_name_eq (named cs b.head) (named cs d.head) e in ap (is_block_named cs) q

  any_interface : (r : Row) (mid : List Row) → any (is_part_named cs 21 (named cs r)) mid ≡ any (same_interface cs r) (filter (is_row_of 21) mid)
  unfolding any filter is_part_named same_interface
  any_interface r [] = refl
  any_interface r (x ∷ mid) = go (is_row_of 21 x) (any_interface r mid)
    where
      go : (b : Bool) → any (is_part_named cs 21 (named cs r)) mid ≡ any (is_row_named cs (named cs r)) (filter (is_row_of 21) mid) →
          choose (b && is_row_named cs (named cs r) x) true (any (is_part_named cs 21 (named cs r)) mid) ≡
          any (is_row_named cs (named cs r)) (choose b (x ∷ filter (is_row_of 21) mid) (filter (is_row_of 21) mid))
      go true ih = ap (choose (is_row_named cs (named cs r) x) true) ih
      go false ih = ih

-- ---- The turns.

module _ (cs : List NamedCard) (pre mid : List Row) (r : Row) (rs : List Row) where
  pub gather_type : (o : Option Row) → is_type_row r ≡ true →
      gather cs pre mid o (r ∷ rs) ≡ gather cs (pre ++ (r ∷ [])) [] (choose (any (is_type_row_named cs (named cs r)) pre) none (some r)) rs
  unfolding gather
  gather_type o e = rw e

  module _ (e : is_type_row r ≡ false) where
    pub gather_outside : gather cs pre mid none (r ∷ rs) ≡ gather cs (pre ++ (r ∷ [])) [] none rs
    unfolding gather
    gather_outside = rw e

    module _ (t : Row) where
      pub gather_other : is_row_of 21 r ≡ false → gather cs pre mid (some t) (r ∷ rs) ≡ gather cs (pre ++ (r ∷ [])) (mid ++ (r ∷ [])) (some t) rs
      unfolding gather
      gather_other f = rw (e, f)

      pub gather_again : is_row_of 21 r ≡ true → any (is_part_named cs 21 (named cs r)) mid ≡ true →
          gather cs pre mid (some t) (r ∷ rs) ≡ gather cs (pre ++ (r ∷ [])) (mid ++ (r ∷ [])) (some t) rs
      unfolding gather
      gather_again f g = rw (e, f, g)

      pub gather_new : is_row_of 21 r ≡ true → any (is_part_named cs 21 (named cs r)) mid ≡ false →
          gather cs pre mid (some t) (r ∷ rs) ≡ implementing t r ∷ gather cs (pre ++ (r ∷ [])) (mid ++ (r ∷ [])) (some t) rs
      unfolding gather
      gather_new f g = rw (e, f, g)

pub gather_nil : (cs : List NamedCard) (pre mid : List Row) (o : Option Row) → gather cs pre mid o [] ≡ []
unfolding gather
gather_nil cs pre mid o = refl

-- ---- What is gathered, block by block.

unfoldable listed_under : List NamedCard → Row → List Row → List Row → List Implementing
listed_under cs t mid ps = map (implementing t) (news (same_interface cs) (filter (is_row_of 21) mid) (filter (is_row_of 21) ps))

unfoldable listed_by : List NamedCard → Block → List Implementing
listed_by cs b = listed_under cs b.head [] b.parts

unfoldable under_is : List NamedCard → List Row → Option Row → List Row → List Implementing
under_is cs mid o ps = found o (λ t. listed_under cs t mid ps) []

module _ (cs : List NamedCard) (t : Row) (mid : List Row) where
  listed_nil : listed_under cs t mid [] ≡ []
  unfolding listed_under
  listed_nil = rw (filter_nil (is_row_of 21), news_nil (same_interface cs) (filter (is_row_of 21) mid))

  module _ (r : Row) (ps : List Row) where
    listed_other : is_row_of 21 r ≡ false → listed_under cs t mid (r ∷ ps) ≡ listed_under cs t (mid ++ (r ∷ [])) ps
    unfolding listed_under
    listed_other e =
        let a : filter (is_row_of 21) (r ∷ ps) ≡ filter (is_row_of 21) ps = filter_no (is_row_of 21) r ps e in
        let b : filter (is_row_of 21) (mid ++ (r ∷ [])) ≡ filter (is_row_of 21) mid =
        filter_append (is_row_of 21) mid (r ∷ []) ∙ ap (λ (l : List Row). filter (is_row_of 21) mid ++ l) (filter_no (is_row_of 21) r [] e ∙ filter_nil (is_row_of 21))
        ∙ append-nil (filter (is_row_of 21) mid) in
        rw (a, b)

    with_last : is_row_of 21 r ≡ true → filter (is_row_of 21) mid ++ (r ∷ []) ≡ filter (is_row_of 21) (mid ++ (r ∷ []))
    with_last e =
        sym (filter_append (is_row_of 21) mid (r ∷ [])
        ∙ ap (λ (l : List Row). filter (is_row_of 21) mid ++ l) (filter_yes (is_row_of 21) r [] e ∙ ap (λ (l : List Row). r ∷ l) (filter_nil (is_row_of 21))))

    listed_again : is_row_of 21 r ≡ true → any (is_part_named cs 21 (named cs r)) mid ≡ true → listed_under cs t mid (r ∷ ps) ≡ listed_under cs t (mid ++ (r ∷ [])) ps
    unfolding listed_under
    listed_again e f =
        rw (
          filter_yes (is_row_of 21) r ps e,
          news_old (same_interface cs) (filter (is_row_of 21) mid) r (filter (is_row_of 21) ps) (sym (any_interface cs r mid) ∙ f),
          with_last e,
        )

    listed_new : is_row_of 21 r ≡ true → any (is_part_named cs 21 (named cs r)) mid ≡ false →
        listed_under cs t mid (r ∷ ps) ≡ implementing t r ∷ listed_under cs t (mid ++ (r ∷ [])) ps
    unfolding listed_under
    listed_new e f =
        rw (
          filter_yes (is_row_of 21) r ps e,
          news_new (same_interface cs) (filter (is_row_of 21) mid) r (filter (is_row_of 21) ps) (sym (any_interface cs r mid) ∙ f),
          with_last e,
        )

-- All types: the rows before and the types before have the same names.
module _ (cs : List NamedCard) where
  Known : List Row → List Block → Type 0
  Known pre pre_b = (n : List ℕ) → any (is_block_named cs n) pre_b ≡ any (is_type_row_named cs n) pre

  types_is : List Block → List Block → List Implementing
  types_is pre_b bs = flat_map (listed_by cs) (news (same_block cs) pre_b bs)

  known_part : (pre : List Row) (pre_b : List Block) (r : Row) → is_type_row r ≡ false → Known pre pre_b → Known (pre ++ (r ∷ [])) pre_b
  unfolding Known is_type_row_named
  known_part pre pre_b r e h n =
      h n ∙ sym (any_snoc (is_type_row_named cs n) pre r ∙ ap (λ (b : Bool). choose (b && is_row_named cs n r) true (any (is_type_row_named cs n) pre)) e)

  known_type : (pre : List Row) (pre_b : List Block) (r : Row) (ps : List Row) → is_type_row r ≡ true → Known pre pre_b →
      Known (pre ++ (r ∷ [])) (pre_b ++ (record { head = r; parts = ps } ∷ []))
  unfolding Known is_type_row_named is_block_named
  known_type pre pre_b r ps e h n =
      any_snoc (is_block_named cs n) pre_b (record { head = r; parts = ps })
      ∙ ap (choose (is_row_named cs n r) true) (h n)
      ∙ sym (any_snoc (is_type_row_named cs n) pre r ∙ ap (λ (b : Bool). choose (b && is_row_named cs n r) true (any (is_type_row_named cs n) pre)) e)

  types_next : (pre : List Row) (pre_b : List Block) (r : Row) (ps : List Row) (bs : List Block) → Known pre pre_b →
      types_is pre_b (record { head = r; parts = ps } ∷ bs) ≡
      under_is cs [] (choose (any (is_type_row_named cs (named cs r)) pre) none (some r)) ps ++ types_is (pre_b ++ (record { head = r; parts = ps } ∷ [])) bs
  unfolding Known types_is under_is flat_map
  types_next pre pre_b r ps bs h = go (any (is_type_row_named cs (named cs r)) pre) refl
    where
      b : Block
      b = record { head = r; parts = ps }

      known : (t : Bool) → any (is_type_row_named cs (named cs r)) pre ≡ t → any (same_block cs b) pre_b ≡ t
      known t e = let k : any (same_block cs b) pre_b ≡ any (is_type_row_named cs (named cs r)) pre = unfold same_block in h (named cs r) in k ∙ e

      go : (t : Bool) → any (is_type_row_named cs (named cs r)) pre ≡ t →
          flat_map (listed_by cs) (news (same_block cs) pre_b (b ∷ bs)) ≡
          found (choose t none (some r)) (λ u. listed_under cs u [] ps) [] ++ flat_map (listed_by cs) (news (same_block cs) (pre_b ++ (b ∷ [])) bs)
      go true e = ap (flat_map (listed_by cs)) (news_old (same_block cs) pre_b b bs (known true e))
      go false e = ap (flat_map (listed_by cs)) (news_new (same_block cs) pre_b b bs (known false e)) ∙ (unfold listed_by in refl)

  gathered : (pre mid : List Row) (o : Option Row) (rs : List Row) (pre_b : List Block) → Known pre pre_b →
      gather cs pre mid o rs ≡ under_is cs mid o (blocks rs).0 ++ types_is pre_b (blocks rs).1
  gathered pre mid o [] pre_b h = gather_nil cs pre mid o ∙ sym (none_left o)
    where
      no_types : types_is pre_b (blocks []).1 ≡ []
      no_types = unfold types_is flat_map in rw (blocks_nil, news_nil (same_block cs) pre_b)

      none_left : (o : Option Row) → under_is cs mid o (blocks []).0 ++ types_is pre_b (blocks []).1 ≡ []
      none_left none = (unfold under_is in no_types)
      none_left (some t) = (unfold under_is in rw (no_types) (rw blocks_nil (rw (listed_nil cs t mid))))
  gathered pre mid o (r ∷ rs) pre_b h =
      go (is_type_row r) o refl (gathered (pre ++ (r ∷ [])) [] (choose (any (is_type_row_named cs (named cs r)) pre) none (some r)) rs
      (pre_b ++ (record { head = r; parts = (blocks rs).0 } ∷ [])))
      (gathered (pre ++ (r ∷ [])) [] none rs pre_b) (λ t. gathered (pre ++ (r ∷ [])) (mid ++ (r ∷ [])) (some t) rs pre_b)
    where
      after : List Row
      after = pre ++ (r ∷ [])

      b : Block
      b = record { head = r; parts = (blocks rs).0 }

      first : Option Row
      first = choose (any (is_type_row_named cs (named cs r)) pre) none (some r)

      nothing : (o : Option Row) → under_is cs mid o [] ≡ []
      nothing none = unfold under_is in refl
      nothing (some t) = unfold under_is in listed_nil cs t mid

      part : (t : Row) → is_type_row r ≡ false → (x y : Bool) → is_row_of 21 r ≡ x → any (is_part_named cs 21 (named cs r)) mid ≡ y →
          gather cs after (mid ++ (r ∷ [])) (some t) rs ≡ listed_under cs t (mid ++ (r ∷ [])) (blocks rs).0 ++ types_is pre_b (blocks rs).1 →
          gather cs pre mid (some t) (r ∷ rs) ≡ listed_under cs t mid (r ∷ (blocks rs).0) ++ types_is pre_b (blocks rs).1
      part t e false y s u k =
          gather_other cs pre mid r rs e t s ∙ k
          ∙ ap (λ (l : List Implementing). l ++ types_is pre_b (blocks rs).1) (sym (listed_other cs t mid r (blocks rs).0 s))
      part t e true true s u k =
          gather_again cs pre mid r rs e t s u ∙ k
          ∙ ap (λ (l : List Implementing). l ++ types_is pre_b (blocks rs).1) (sym (listed_again cs t mid r (blocks rs).0 s u))
      part t e true false s u k =
          gather_new cs pre mid r rs e t s u ∙ ap (λ (l : List Implementing). implementing t r ∷ l) k
          ∙ ap (λ (l : List Implementing). l ++ types_is pre_b (blocks rs).1) (sym (listed_new cs t mid r (blocks rs).0 s u))

      go : (x : Bool) (o : Option Row) → is_type_row r ≡ x →
          (Known after (pre_b ++ (b ∷ [])) → gather cs after [] first rs ≡ under_is cs [] first (blocks rs).0 ++ types_is (pre_b ++ (b ∷ [])) (blocks rs).1) →
          (Known after pre_b → gather cs after [] none rs ≡ under_is cs [] none (blocks rs).0 ++ types_is pre_b (blocks rs).1) →
          ((t : Row) → Known after pre_b →
          gather cs after (mid ++ (r ∷ [])) (some t) rs ≡ under_is cs (mid ++ (r ∷ [])) (some t) (blocks rs).0 ++ types_is pre_b (blocks rs).1) →
          gather cs pre mid o (r ∷ rs) ≡ under_is cs mid o (blocks (r ∷ rs)).0 ++ types_is pre_b (blocks (r ∷ rs)).1
      go true o e type outside under =
          gather_type cs pre mid r rs o e
          ∙ type (known_type pre pre_b r (blocks rs).0 e h)
          ∙ sym (types_next pre pre_b r (blocks rs).0 (blocks rs).1 h)
          ∙ sym (ap (λ (p : List Row × List Block). under_is cs mid o p.0 ++ types_is pre_b p.1) (blocks_type r rs e)
          ∙ ap (λ (l : List Implementing). l ++ types_is pre_b (b ∷ (blocks rs).1)) (nothing o))
      go false none e type outside under =
          gather_outside cs pre mid r rs e
          ∙ outside (known_part pre pre_b r e h)
          ∙ (unfold under_is in sym (ap (λ (p : List Row × List Block). types_is pre_b p.1) (blocks_under r rs e)))
      go false (some t) e type outside under =
          part t e (is_row_of 21 r) (any (is_part_named cs 21 (named cs r)) mid) refl refl ((unfold under_is in under t (known_part pre pre_b r e h)))
          ∙ (unfold under_is in sym (ap (λ (p : List Row × List Block). listed_under cs t mid p.0 ++ types_is pre_b p.1) (blocks_under r rs e)))

-- ---- The whole.

pub gather_all : (cs : List NamedCard) (rs : List Row) → gather cs [] [] none rs ≡ all_implementing cs rs
unfolding all_implementing first_types
gather_all cs rs =
    gathered cs [] [] none rs [] start
    ∙ (unfold under_is types_is in (ap (flat_map (listed_by cs)) (news_firsts (same_block cs) (blocks_same cs) (blocks rs).1)
    ∙ ap (λ (f : Block → List Implementing). flat_map f (firsts (same_block cs) [] (blocks rs).1)) (λ j b. listed_is b j)))
  where
    start : Known cs [] []
    start = unfold Known any in λ n. refl

    listed_is : (b : Block) → listed_by cs b ≡ implementing_of cs b
    listed_is b =
        unfold listed_by listed_under implementing_of in
        ap (map (implementing b.head))
        (ap (λ (l : List Row). news (same_interface cs) l (filter (is_row_of 21) b.parts)) (filter_nil (is_row_of 21))
        ∙ news_firsts (same_interface cs) (interfaces_same cs) (filter (is_row_of 21) b.parts))
