-- How a stream is cut into commands.
use Rattle.std.proofs.Common.{◌≡◌, ◌≢◌, ◌∙◌, ◌<◌, ◌≤◌, ℕ, Bool, true, false, List, [], ◌∷◌, ◌++◌, ap, arith, length, length-append, refl}
use Rattle.std.specs.Prelude.{Some, nat_lt}
use Rattle.std.specs.List.{All}
use Rattle.std.proofs.lemmas.Bool.Decides.{nat_tests}
use Rattle.std.proofs.Math.Seq.{drop-append_seam, take-append_seam}
use Rattle.org_base.specs.declared.code.Code.TheVariants as code
use Rattle.org_base.specs.declared.fault.Fault.TheVariants.{Plain}
use Rattle.org_wire.specs.Lines.{cut_at}
use Rattle.org_wire.specs.Stream.{Bad, Framed, Line, Plainly, after_cut, after_line, line_of, reading_of}
use Rattle.org_wire.specs.Framing.{StreamsAreFramed}
use Rattle.org_wire.specs.declared.command.Next.TheVariants as next
use Rattle.org_wire.proofs.SpelledWords.{cut_back, no_cut}

not_less : (a b : ℕ) → b ≤ a → nat_lt a b ≡ false
not_less a b h = grind (arith, nat_tests)

less : (a b : ℕ) → a < b → nat_lt a b ≡ true
less a b h = grind (arith, nat_tests)

-- a stream that has a byte is cut at its first line feed
cut_first : (second : Bool) (bytes : List ℕ) → 0 < length bytes → reading_of second bytes ≡ after_cut (line_of second) (cut_at 10 bytes)
cut_first second [] some = absurd (omega (arith, some))
cut_first second (b ∷ bytes) some = refl

module _ (second : Bool) (line rest : List ℕ) (whole : All (λ b. b ≢ 10) line) where
  cut_here : reading_of second (line ++ 10 ∷ rest) ≡ after_cut (line_of second) (Some (record { before = line; after = rest }))
  cut_here = cut_first second (line ++ 10 ∷ rest) (omega (arith, length-append line (10 ∷ rest))) ∙ ap (after_cut (line_of second)) (cut_back 10 line rest whole)

  pub too_long : 4096 < length line → reading_of second (line ++ 10 ∷ rest) ≡ record { next = next.Refused (Plain code.Long); rest = rest }
  too_long long = cut_here ∙ rw (less 4096 (length line) long) refl

  pub said : (l : Line) → length line ≤ 4096 → line_of second line ≡ l → reading_of second (line ++ 10 ∷ rest) ≡ after_line l rest
  said l short is = cut_here ∙ rw (not_less 4096 (length line) short) (ap (λ (m : Line). after_line m rest) is)

pub framed_streams : StreamsAreFramed
framed_streams second = (
  refl,
  λ line rest whole. record {
    long = too_long second line rest whole;
    bad = λ short is. said second line rest whole Bad short is;
    plain = λ command short is. said second line rest whole (Plainly command) short is;
    payload = λ frame bytes short is small.
        said second line (bytes ++ rest) whole (Framed frame (length bytes)) short is
        ∙ rw (not_less 67_108_864 (length bytes) small, not_less (length (bytes ++ rest)) (length bytes) (omega (arith, length-append bytes rest)), take-append_seam bytes rest, drop-append_seam bytes rest) refl;
    size = λ frame n short is large. said second line rest whole (Framed frame n) short is ∙ rw (less 67_108_864 n large) refl;
    short = λ frame n short is small early. said second line rest whole (Framed frame n) short is ∙ rw (not_less 67_108_864 n small, less (length rest) n early) refl;
    unended = λ some. cut_first second line some ∙ ap (after_cut (line_of second)) (no_cut 10 line whole);
  },
)
