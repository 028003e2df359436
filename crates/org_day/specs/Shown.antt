-- Texts as a terminal may show them.
use Rattle.std.specs.Prelude.{◌≡◌, ℕ, Bool, false, ◌||◌, ◌&&◌, nat_le, nat_lt, if◌then◌else◌, List, All, chars}
use Rattle.org_visible.specs.Unseen.{is_mark}

-- a character that isn't shown: a control character, or a mark that turns or hides text
abbrev pub is_hidden : ℕ → Bool
is_hidden c = nat_lt c 32 || ((nat_le 127 c && nat_lt c 160) || is_mark c)

-- U+FFFD stands in its place
abbrev pub shown : ℕ → ℕ
shown c = if is_hidden c then 0xFFFD else c

-- a text that can be shown as it is
abbrev pub IsShown : List ℕ → Type 0
IsShown text = All (λ c. is_hidden c ≡ false) (chars text)
