-- The class of a line by itself (Org Syntax, "Comments"; "Keywords"; "Clocks"; that a comment's first word is # alone,
-- and where a key ends: profile).
use Rattle.std.specs.Prelude.{ℕ, Bool, ◌&&◌, not, ◌==◌, if◌then◌else◌, List, drop, slice_index, nat_eq, bytes_eq, codes}
use Rattle.std.specs.List.{list_any, starts_with}
use Rattle.org_base.specs.Words.{first_word, trim_start}
use Rattle.org_stamp.specs.Pair.{is_clock}
use Rattle.org_class.specs.declared.class.Class.{Class}
use Rattle.org_class.specs.declared.class.Class.TheVariants.{Clock, Setting, Comment, Plain}

-- the first byte of the first word; 0 where there is none
abbrev pub first_byte : List ℕ → ℕ
first_byte l = slice_index (trim_start l) 0

-- the first word begins with #
abbrev pub has_hash : List ℕ → Bool
has_hash l = slice_index (trim_start l) 0 == 35

-- a comment line's first word is # alone
abbrev pub is_comment : List ℕ → Bool
is_comment l = bytes_eq (first_word l) (codes "#")

-- the word begins with `#+`, a key that isn't empty, and a colon
abbrev pub is_setting_word : List ℕ → Bool
is_setting_word w = starts_with nat_eq w (codes "#+") && not (slice_index w 2 == 58) && list_any (λ b. b == 58) (drop 2 w)

-- the line is a setting line: its first word begins with `#+`, a key and a colon
abbrev pub is_setting : List ℕ → Bool
is_setting l = is_setting_word (first_word l)

-- the class of a line that belongs to no heading, drawer or block
abbrev pub line_class : List ℕ → Class
line_class l = if is_comment l then Comment else (if is_setting l then Setting else (if is_clock l then Clock else Plain))
