-- A part of a text that is handed back is more than its bytes: it lies in the text's memory, at a place.
use Rattle.std.specs.Prelude.{◌≡◌, List, ℕ, ◌+◌, ◌≤◌, length}
use Rattle.std.specs.Borrow.{Bor}
use Rattle.definition.specs.Names.{bytes_at}

-- What is handed back for a span of a text: as many of the span's bytes as the text has, in the text's own memory, from where the span begins.
pub record PartAt (text part : Bor (List ℕ)) (at size : ℕ) : Type 0 where
  pub bytes : part.now ≡ bytes_at text.now at size
  pub block : part.ref_ptr.0 ≡ text.ref_ptr.0
  pub place : at ≤ length text.now → part.ref_ptr.1 ≡ text.ref_ptr.1 + at
