-- Parts of lines that can be shown.
use Rattle.std.proofs.Common.{◌≡◌, ℕ, List, [], ◌∷◌, ◌++◌, map, sym, ap, ◌∙◌, subst, encode_utf8_all, All, Option, string_bytes}
use Rattle.std.specs.Option.{option_to_list}
use Rattle.std.specs.Str.{chars, IsUtf8}
use Rattle.std.proofs.lemmas.List.Elements.{All-pop, All-push}
use Rattle.org_day.specs.Lines.{AreShown, span_text}
use Rattle.org_day.specs.Shown.{IsShown, shown}
use Rattle.org_day.specs.declared.line.Span.{Span}
use Rattle.org_day.proofs.ShownLemmas.{shown_is_shown}

-- one more part
pub shown_more : (spans new : List Span) (span : Span) (text : List ℕ) → AreShown spans → IsUtf8 text → span_text span ≡ [] ++ encode_utf8_all (map shown (chars text)) → new ≡ spans ++ span ∷ [] → AreShown new
shown_more spans new span text before utf8 is added =
    subst AreShown (sym added) (All-push (λ s. IsShown (span_text s)) spans span before (shown_is_shown text (span_text span) utf8 is))

-- one part less
pub still_shown : (spans new : List Span) (last : Option Span) → spans ≡ new ++ option_to_list last → AreShown spans → AreShown new
still_shown spans new last parts before = (All-pop (λ s. IsShown (span_text s)) spans new last parts before).0
