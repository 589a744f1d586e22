-- Where the spans of a card without fault lie, in a text from 0 on.
use mathlib.Core.List.{List}
use mathlib.Core.Option.{Option}
use Prim.Native.Nat.{ℕ, ◌+◌, ◌≤◌}
use native.Mathlib.Omega.{arith}
use Rattle.definition.specs.Cards.{Card}
use Rattle.definition.proofs.CleanCards.{Clean, placed, item_within, name_within}

pub item_in_text : (bytes : List ℕ) (size : ℕ) (h s : Option Card) (c : Card) → Clean (placed bytes 0 size h s) c → c.item_at + c.item_len ≤ size
item_in_text bytes size h s c k = omega (arith, (item_within bytes 0 size h s c k.in_text).1)

pub name_in_text : (bytes : List ℕ) (size : ℕ) (h s : Option Card) (c : Card) → Clean (placed bytes 0 size h s) c → c.name_at + c.name_len ≤ size
name_in_text bytes size h s c k = name_within bytes size h s c k.in_text k.name_in_item
