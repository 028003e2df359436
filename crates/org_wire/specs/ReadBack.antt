-- Replies, read back by a reader that knows their format alone: a line ends at its line feed, its words stand between single
-- spaces, and a view has as many bytes after its line as that says (profile).
-- Characters by their codes: 10 line feed, 32 space.
use Rattle.std.specs.Prelude.{◌≡◌, ◌<◌, ◌^◌, ◌-◌, ◌==◌, ℕ, List, [], ◌∷◌, ◌++◌, Option, None, Some, bytes_eq, codes, drop, flat_map, if◌then◌else◌, length, nat_le, slice_get, take}
use Rattle.std.specs.List.{All, slice_split}
use Rattle.std.specs.Option.{option_map}
use Rattle.std.specs.Str.Parse.{digits_value}
use Rattle.org_base.specs.declared.code.Code.{Code}
use Rattle.org_base.specs.declared.code.Code.TheVariants as code
use Rattle.org_base.specs.declared.fault.Fault.{Fault}
use Rattle.org_base.specs.declared.fault.Fault.TheVariants as fault
use Rattle.org_wire.specs.Lines.{Cut, cut_at}
use Rattle.org_wire.specs.Replies.{reply_bytes}
use Rattle.org_wire.specs.declared.reply.Reply.{Reply}
use Rattle.org_wire.specs.declared.reply.Reply.TheVariants.{Changed, Serial, Shown, Refused}

-- a reply, and the bytes after it
pub record Got : Type 0 where
  pub reply : Reply
  pub rest : List ℕ

-- the codes in the order of their numbers, from 1 on
abbrev pub all_codes : List Code
all_codes = code.Memory ∷ (code.Command ∷ (code.Long ∷ (code.Unknown ∷ (code.Taken ∷ (code.Utf8 ∷ (code.Size ∷ (code.Files ∷ (code.Range ∷ (code.Boundary
    ∷ (code.Stale ∷ (code.Session ∷ (code.Date ∷ (code.Days ∷ (code.Match ∷ (code.Regexp ∷ (code.Option ∷ (code.Unpinned ∷ (code.Pinned ∷ (code.Heading
    ∷ (code.Keyword ∷ (code.Hours ∷ (code.Spent ∷ (code.Cut ∷ (code.Device ∷ (code.Late ∷ [])))))))))))))))))))))))))

-- the refusal of a code, with what stands after its name
abbrev pub fault_of : Code → List (List ℕ) → Fault
fault_of code.Stale (serial ∷ []) = fault.Stale (digits_value 10 serial)
fault_of code.Match (at ∷ []) = fault.MatchAt (digits_value 10 at)
fault_of c words = fault.Plain c

-- a view of so many bytes, if they are there
abbrev pub view_behind : ℕ → List ℕ → Option Got
view_behind n rest = if nat_le n (length rest) then Some (record { reply = Shown (take n rest); rest = drop n rest }) else None

-- a change whose new bytes are so many, if they are there
abbrev pub part_of : ℕ → ℕ → ℕ → ℕ → List ℕ → Option Got
part_of serial at del n rest =
    if nat_le n (length rest) then Some (record { reply = Changed serial (record { at = at; del = del; ins = take n rest }); rest = drop n rest }) else None

-- the reply that says what a completion replaced, of the words of its line: a serial, a place, how many bytes went and
-- how many came
abbrev pub change_of : List ℕ → List ℕ → List (List ℕ) → List ℕ → Option Got
change_of serial at (del ∷ (len ∷ [])) rest = part_of (digits_value 10 serial) (digits_value 10 at) (digits_value 10 del) (digits_value 10 len) rest
change_of serial at words rest = None

-- the reply whose line has these words
abbrev pub reply_of : List (List ℕ) → List ℕ → Option Got
reply_of (word ∷ (number ∷ [])) rest = if bytes_eq word (codes "ok") then Some (record { reply = Serial (digits_value 10 number); rest = rest })
    else if bytes_eq word (codes "view") then view_behind (digits_value 10 number) rest
    else None
reply_of (word ∷ (number ∷ (name ∷ words))) rest =
    if bytes_eq word (codes "err") then option_map (λ c. record { reply = Refused (fault_of c words); rest = rest }) (slice_get all_codes (digits_value 10 number - 1))
    else if bytes_eq word (codes "ok") then change_of number name words rest
    else None
reply_of words rest = None

-- the first reply of a stream that is cut after its first line
abbrev pub reply_behind : Option Cut → Option Got
reply_behind None = None
reply_behind (Some cut) = reply_of (slice_split (λ b. b == 32) cut.before) cut.after

-- the reply that stands first on a stream, if one stands there whole
abbrev pub first_reply : List ℕ → Option Got
first_reply bytes = reply_behind (cut_at 10 bytes)

-- the numbers of a reply are below 2^64
abbrev pub HasNumbers : Reply → Type 0
HasNumbers (Serial serial) = serial < 2 ^ 64
HasNumbers (Changed serial part) = (serial < 2 ^ 64) × (part.at < 2 ^ 64) × (part.del < 2 ^ 64) × (length part.ins < 2 ^ 64)
HasNumbers (Shown text) = length text < 2 ^ 64
HasNumbers (Refused (fault.Plain c)) = Unit {0}
HasNumbers (Refused (fault.Stale serial)) = serial < 2 ^ 64
HasNumbers (Refused (fault.MatchAt at)) = at < 2 ^ 64

-- whatever follows a reply, the reader gets it back, and what follows; of a reply that is cut off it gets none; so replies
-- that are written one after another can be cut in one way only
pub record RepliesAreReadBack : Type 0 where
  pub first : (reply : Reply) (rest : List ℕ) → HasNumbers reply → first_reply (reply_bytes reply ++ rest) ≡ Some (record { reply = reply; rest = rest })
  pub cut : (reply : Reply) (part lost : List ℕ) → HasNumbers reply → reply_bytes reply ≡ part ++ lost → 0 < length lost → first_reply part ≡ None
  pub all : (replies others : List Reply) → All HasNumbers replies → All HasNumbers others → flat_map reply_bytes replies ≡ flat_map reply_bytes others → replies ≡ others
