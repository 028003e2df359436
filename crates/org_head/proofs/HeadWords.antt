-- Words of the proofs about Head: parts of its definitions.
use Rattle.std.specs.Prelude.{ℕ, List}
use Rattle.org_base.specs.Words.{first_word}
use Rattle.org_settings.specs.Settings.{FileSettings}
use Rattle.org_head.specs.Parts.{is_comment_word}
use Rattle.org_head.specs.Head.{behind, behind_cookie}

-- what is left of a heading line after its keyword, its cookie and COMMENT, those that stand there
abbrev pub behind_comment : FileSettings → List ℕ → List ℕ
behind_comment settings line = let rest = behind_cookie settings line in behind (is_comment_word (first_word rest)) rest
