-- Worked examples: what the definitions say of inputs at which a wrong rule says something else.
use Rattle.std.specs.Prelude.{◌≡◌, ◌∷◌, ◌++◌, [], codes, false, map, true}
use Rattle.org_visible.specs.Unseen.{is_mark}
use Rattle.org_visible.specs.Visible.{visible}
use Rattle.org_visible.specs.declared.visible.Escape.TheVariants.{Json, Caret, Field, Question}

-- 27 is ESC, 194 155 is U+009B, 194 160 is U+00A0 and 226 128 156 is U+201C, whose last two bytes aren't U+0080 and U+009C
pub record ExamplesHold : Type 0 where
  pub feed : visible Json (codes "a\nb") ≡ codes "a\\u000ab"
  pub second : visible Json (194 ∷ 155 ∷ []) ≡ codes "\\u009b"
  pub caret : visible Caret (27 ∷ 127 ∷ 194 ∷ 155 ∷ []) ≡ codes "^[^?<9b>"
  pub others : visible Caret (194 ∷ 160 ∷ 226 ∷ 128 ∷ 156 ∷ []) ≡ 194 ∷ 160 ∷ 226 ∷ 128 ∷ 156 ∷ []
  -- U+202E, and U+2069
  pub turned : visible Caret (226 ∷ 128 ∷ 174 ∷ 97 ∷ 226 ∷ 129 ∷ 169 ∷ []) ≡ codes "<202e>a<2069>"
  -- U+E0041 and U+E007F, of which the first is a hidden A
  pub hidden : visible Caret (243 ∷ 160 ∷ 129 ∷ 129 ∷ 243 ∷ 160 ∷ 129 ∷ 191 ∷ []) ≡ codes "<e0041><e007f>"
  -- U+2029 and U+202F beside U+202A to U+202E, U+2065 and U+206A beside U+2066 to U+2069, and U+E0080
  pub beside : visible Caret (226 ∷ 128 ∷ 169 ∷ 226 ∷ 128 ∷ 175 ∷ 226 ∷ 129 ∷ 165 ∷ 226 ∷ 129 ∷ 170 ∷ 243 ∷ 160 ∷ 130 ∷ 128 ∷ []) ≡
      226 ∷ 128 ∷ 169 ∷ 226 ∷ 128 ∷ 175 ∷ 226 ∷ 129 ∷ 165 ∷ 226 ∷ 129 ∷ 170 ∷ 243 ∷ 160 ∷ 130 ∷ 128 ∷ []
  -- U+200E, U+200F and U+061C stand
  pub leaning : visible Caret (226 ∷ 128 ∷ 142 ∷ 226 ∷ 128 ∷ 143 ∷ 216 ∷ 156 ∷ []) ≡ 226 ∷ 128 ∷ 142 ∷ 226 ∷ 128 ∷ 143 ∷ 216 ∷ 156 ∷ []
  -- the first bytes of one before the whole of another
  pub again : visible Caret (226 ∷ 226 ∷ 128 ∷ 170 ∷ []) ≡ 226 ∷ codes "<202a>"
  pub turned_json : visible Json (226 ∷ 128 ∷ 174 ∷ []) ≡ codes "\\u202e"
  pub hidden_json : visible Json (243 ∷ 160 ∷ 129 ∷ 129 ∷ []) ≡ codes "\\udb40\\udc41"
  pub fields : visible Field (226 ∷ 129 ∷ 166 ∷ 44 ∷ 9 ∷ []) ≡ codes " ; "
  pub questions : visible Question (27 ∷ 194 ∷ 155 ∷ 195 ∷ 155 ∷ 127 ∷ 226 ∷ 128 ∷ 174 ∷ 243 ∷ 160 ∷ 129 ∷ 129 ∷ []) ≡ 63 ∷ 63 ∷ 63 ∷ 195 ∷ 155 ∷ codes "????????"
  -- where a text is cut, each byte stands by its number
  pub cut : visible Caret (97 ∷ 226 ∷ 128 ∷ []) ≡ codes "a<e2><80>"
  -- the first and the last of the marks by their numbers, and what stands beside these
  pub marks : map is_mark (8234 ∷ 8238 ∷ 8294 ∷ 8297 ∷ 917504 ∷ 917631 ∷ []) ≡ true ∷ true ∷ true ∷ true ∷ true ∷ true ∷ []
  pub no_marks : map is_mark (8206 ∷ 8233 ∷ 8239 ∷ 8293 ∷ 8298 ∷ 1564 ∷ 917632 ∷ []) ≡ false ∷ false ∷ false ∷ false ∷ false ∷ false ∷ false ∷ []
