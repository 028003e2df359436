-- The members of a row, all as those of an object, or one alone as a person is told it (RFC 8259, "Objects").
use Rattle.std.specs.Prelude.{◌≡◌, ℕ, Bool, false, if◌then◌else◌, List, [], ◌∷◌, ◌++◌, Option, None, Some, Result, OnOk, bytes_eq, codes, decimal}
use Rattle.org_cal.specs.Texts.{date_text, time_text}
use Rattle.org_client.specs.Json.{flag_member, flag_text, joined, number_member, text_member, texts_member}
use Rattle.org_visible.specs.Visible.{visible}
use Rattle.org_visible.specs.declared.visible.Escape.TheVariants.{Caret}

-- what is written: of an object, or of the member that alone is asked for
pub record MembersView : Type 0 where
  pub only : Option (List ℕ)
  pub bytes : List ℕ

-- these bytes are put after what is written
abbrev pub Puts : {T E : Type 0} → Result T E → MembersView → MembersView → List ℕ → Type 0
Puts result old new bytes = OnOk result (new ≡ record { only = old.only; bytes = old.bytes ++ bytes })

-- a name is the one that alone is asked for
abbrev pub is_asked : Option (List ℕ) → List ℕ → Bool
is_asked None name = false
is_asked (Some only) name = bytes_eq only name

-- a member as one of an object, or its value where it is asked for
abbrev pub member_or : Option (List ℕ) → List ℕ → List ℕ → List ℕ → List ℕ
member_or None name member value = member
member_or (Some only) name member value = if bytes_eq only name then value else []

abbrev pub text_member_of : Option (List ℕ) → List ℕ → List ℕ → List ℕ
text_member_of only name text = member_or only name (text_member name text) (visible Caret text)

abbrev pub number_member_of : Option (List ℕ) → List ℕ → ℕ → List ℕ
number_member_of only name number = member_or only name (number_member name number) (decimal number)

abbrev pub flag_member_of : Option (List ℕ) → List ℕ → Bool → List ℕ
flag_member_of only name flag = member_or only name (flag_member name flag) (flag_text flag)

-- what stands between the items of a list, as a person is told them
abbrev pub item_separator : List ℕ → ℕ
item_separator name = if bytes_eq name (codes "path") then 47 else 58

abbrev pub texts_member_of : Option (List ℕ) → List ℕ → List (List ℕ) → List ℕ
texts_member_of only name texts = member_or only name (texts_member name texts) (joined (item_separator name) texts)

-- a date and a time of day; nothing where there is none

abbrev pub date_member : Option (List ℕ) → List ℕ → Option ℕ → List ℕ
date_member only name None = []
date_member only name (Some day) = text_member_of only name (date_text day)

abbrev pub time_member : Option (List ℕ) → List ℕ → Option ℕ → List ℕ
time_member only name None = []
time_member only name (Some time) = text_member_of only name (time_text time)
