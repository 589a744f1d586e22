-- A part of a comment.
use Rattle.std.specs.Prelude.{◌≡◌, List, ℕ, ◌+◌, ◌≤◌, ◌<◌, drop, length, Option, Some, None}
use Rattle.definition.specs.Lexical.{comment}

-- So many bytes go on a comment, one at least; none where it ends.
abbrev pub CommentPart : List ℕ → Option ℕ → Type 0
CommentPart bs (Some n) = (0 < n) × (n ≤ length bs) × (comment 0 bs ≡ n + comment 0 (drop n bs))
CommentPart bs None = comment 0 bs ≡ 0
