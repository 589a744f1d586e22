-- Lists of names: what each turn of their reader promises, whichever the list.
use mathlib.Core.Path.{◌≡◌, refl, ap}
use mathlib.Core.List.{List, [], ◌∷◌}
use Prim.Native.Nat.{ℕ, ◌≤◌}
use native.Mathlib.Omega.{arith}
use Rattle.definition.specs.Grammar.{Symbol, one, part}
use Rattle.definition.specs.Machine.{first_set_of}
use Rattle.parser_lexer.specs.Sorts.{sort_number}
use Rattle.parser_lexer.specs.Ahead.{Next}
use Rattle.parser_lexer.specs.declared.cursor.Cursor.{Cursor}
use Rattle.std.specs.Prelude.{Ok, Err}
use Rattle.parser_values.specs.declared.error.SyntaxError.{SyntaxError}
use Rattle.parser_values.specs.Reads.{End, May}
use Rattle.parser_items.specs.Lists.{MustList, MayList}
use Rattle.parser_values.proofs.Readers.{begins_with, may, token, not_there}
use Rattle.parser_items.specs.Names.{name_item, name_list, NameList, Joined}
use Rattle.parser_items.proofs.Beginning.{wanting, covers, Sole}
use Rattle.parser_items.proofs.Items.{InList, own_in, may_list, no_cards, cardless, begins, list_on, list_ends, list_fails, alone, chosen, list_chosen}

-- What is left before each name.
abbrev pub rest : NameList → List Symbol
rest l = part l.name ∷ part l.more ∷ []

module _ (text : List ℕ) (x y k : ℕ) (l : NameList) (t : Joined x y k l) where
  sole : Sole l.name (name_item k)
  unfolding wanting covers
  sole = record {
    among = t.names;
    never_empty = t.never_empty;
    wants_token = refl;
    covered =
        ap (λ (s : List (ℕ × ℕ)). covers s (first_set_of (name_item k)) 57) t.letters;
  }

  each : {c : Cursor} {before after : List ℕ} (e : End) → MustList (name_item k) c.text.now c e before after →
      MayList (part l.name ∷ []) c.text.now c e before after
  each {c} e f = may_list c.text.now (part l.name ∷ []) e (alone c.text.now l.name (name_item k) sole f)

  pub absent : {c : Cursor} (before : List ℕ) → (sort_number c.sort ≡ x → ⊥) → c.text.now ≡ text → MayList (part l.optional ∷ []) text c (Ok c) before before
  absent before n i = no_cards text (part l.optional ∷ []) before (not_there l.optional x t.absent t.opener n i)

  -- From the first name on.
  pub opened : {c i k : Cursor} {before after : List ℕ} (e : End) → x ≤ 54 → sort_number c.sort ≡ x → c.text.now ≡ text → Next text c.ends c.cards i →
      May (part l.lead ∷ []) i.text.now i 0 (Ok k) → MayList (rest l) k.text.now k e before after → MayList (part l.optional ∷ []) text c e before after
  opened {c} {i} {k} {before} e s z u n m f =
      let first : May (one x x ∷ []) text c 0 (Ok i) = may (token x z s (omega arith) u n) in
      let begun = list_on text (name_list x l) (one x x ∷ []) (part l.lead ∷ rest l) (begins text (name_list x l) before u)
      (own_in u (no_cards text (one x x ∷ []) before first)) in
      let led = list_on text (name_list x l) (part l.lead ∷ []) (rest l) begun (cardless text (part l.lead ∷ []) before m) in
      let all = list_ends text (name_list x l) (rest l) e led f in
      chosen text l.optional (part l.list ∷ []) x t.standing t.begins s z
      (chosen text l.list (name_list x l) x t.whole (begins_with x x (part l.lead ∷ rest l) refl) s z all)

  -- A name is refused; another follows; it is the last.
  module _ {b c : Cursor} {before middle after : List ℕ} (i : InList (rest l) text b before (rest l) c middle) where
    pub refuses : {e : SyntaxError} → MustList (name_item k) c.text.now c (Err e) middle after → MayList (rest l) text b (Err e) before after
    refuses {e} f = list_fails text (rest l) (part l.name ∷ []) (part l.more ∷ []) i (each (Err e) f)

    module _ {j : Cursor} (f : MustList (name_item k) c.text.now c (Ok j) middle after) where
      left : InList (rest l) text b before (part l.more ∷ []) j after
      left = list_on text (rest l) (part l.name ∷ []) (part l.more ∷ []) i (each (Ok j) f)

      pub follows : {n : Cursor} → y ≤ 54 → sort_number j.sort ≡ y → Next j.text.now j.ends j.cards n → InList (rest l) text b before (rest l) n after
      follows {n} s z m =
          let next : May (one y y ∷ []) j.text.now j 0 (Ok n) = may (token y z s (omega arith) refl m) in
          let more = list_chosen text (rest l) [] l.more (one y y ∷ rest l) y t.again (begins_with y y (rest l) refl) s z left in
          list_on text (rest l) (one y y ∷ []) (rest l) more (cardless text (one y y ∷ []) after next)

      pub is_last : (sort_number j.sort ≡ y → ⊥) → MayList (rest l) text b (Ok j) before after
      is_last z =
          let none = cardless text (part l.more ∷ []) after (not_there l.more y t.done t.joiner z refl) in
          list_ends text (rest l) (part l.more ∷ []) (Ok j) left none
