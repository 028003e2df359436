-- Parts of a line after one another, and lines after lines.
use Rattle.std.proofs.Common.{◌≡◌, ◌∙◌, ℕ, Bool, List, [], ◌∷◌, ◌++◌, refl, sym, ap, subst, append_assoc, append-nil}
use Rattle.std.specs.List.{flat_map}
use Rattle.std.proofs.lemmas.Grind.{flat_map-append}
use Rattle.org_answer.specs.Painted.{ArePaintedLines, IsPainted, IsPaintedLine, Part, no_line, one_more, painted_text, part_bytes, part_text}
use Rattle.org_look.specs.declared.sheet.Tone.{Tone}

-- a line is painted but for its rest
pub record IsPaintedUpTo (is_seen : Bool) (line rest old new : List ℕ) : Type 0 where
  pub front : List ℕ
  pub cut : front ++ rest ≡ line
  pub painted : IsPainted is_seen front old new

pub nothing : (is_seen : Bool) (old : List ℕ) → IsPainted is_seen [] old old
nothing is_seen old = record { parts = []; whole = refl; added = sym (append-nil old) }

-- a part that is put after others
pub one_part : (is_seen : Bool) (tone : Tone) (text old new : List ℕ) → new ≡ old ++ painted_text is_seen tone text → IsPainted is_seen text old new
one_part is_seen tone text old new added =
    let part : Part = record { tone = tone; text = text } in
    record {
      parts = part ∷ [];
      whole = append-nil text;
      added = added ∙ ap (λ t. old ++ t) (sym (append-nil (part_bytes is_seen part)));
    }

pub joined : (is_seen : Bool) (one two old between new : List ℕ) → IsPainted is_seen one old between → IsPainted is_seen two between new → IsPainted is_seen (one ++ two) old new
joined is_seen one two old between new a b = record {
  parts = a.parts ++ b.parts;
  whole = flat_map-append part_text a.parts b.parts ∙ ap (λ t. t ++ flat_map part_text b.parts) a.whole ∙ ap (λ t. one ++ t) b.whole;
  added = b.added ∙ ap (λ t. t ++ flat_map (part_bytes is_seen) b.parts) a.added
      ∙ append_assoc old (flat_map (part_bytes is_seen) a.parts) (flat_map (part_bytes is_seen) b.parts)
      ∙ ap (λ t. old ++ t) (sym (flat_map-append (part_bytes is_seen) a.parts b.parts));
}

pub begins : (is_seen : Bool) (line old : List ℕ) → IsPaintedUpTo is_seen line line old old
begins is_seen line old = record { front = []; cut = refl; painted = nothing is_seen old }

-- two parts of the rest, of which something is left
pub goes_on : (is_seen : Bool) (line rest before behind own left old out between new : List ℕ) → IsPaintedUpTo is_seen line rest old out → before ++ behind ≡ rest → own ++ left ≡ behind →
    IsPainted is_seen before out between → IsPainted is_seen own between new → IsPaintedUpTo is_seen line left old new
goes_on is_seen line rest before behind own left old out between new so_far one two first second = record {
  front = so_far.front ++ (before ++ own);
  cut = append_assoc so_far.front (before ++ own) left ∙ ap (λ t. so_far.front ++ t) (append_assoc before own left ∙ ap (λ t. before ++ t) two ∙ one) ∙ so_far.cut;
  painted = joined is_seen so_far.front (before ++ own) old out new so_far.painted (joined is_seen before own out between new first second);
}

-- the rest of a line
pub ends : (is_seen : Bool) (line rest old out new : List ℕ) → IsPaintedUpTo is_seen line rest old out → IsPainted is_seen rest out new → IsPainted is_seen line old new
ends is_seen line rest old out new so_far last = subst (λ t. IsPainted is_seen t old new) so_far.cut (joined is_seen so_far.front rest old out new so_far.painted last)

pub no_lines : (is_seen : Bool) → ArePaintedLines is_seen []
no_lines is_seen = no_line is_seen

pub one_line_more : (is_seen : Bool) (text old new : List ℕ) → ArePaintedLines is_seen old → IsPaintedLine is_seen text old new → ArePaintedLines is_seen new
one_line_more is_seen text old new before line = one_more is_seen text old new before line
