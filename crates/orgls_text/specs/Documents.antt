-- What the protocol's changes leave of texts (LSP 3.17, "Text Document Synchronization").
use Rattle.std.specs.Prelude.{ℕ, ℤ, ◌-◌, not, Bool, nat_lt, if◌then◌else◌, List, [], ◌∷◌, length, filter, find, bytes_eq, string_bytes, Option, None, Some}
use Rattle.std.specs.Option.{option_and_then, option_map}
use Rattle.org_text.specs.Replace.{max_bytes, replace}
use Rattle.orgls_text.specs.Positions.{is_beyond, offset_of}
use Rattle.orgls_text.specs.declared.change.ContentChange.{ContentChange}
use Rattle.orgls_text.specs.declared.change.Range.{Range}
use Rattle.orgls_text.specs.declared.position.PositionEncoding.{PositionEncoding}

-- a text, unless it's too long
abbrev pub fitting : List ℕ → Option (List ℕ)
fitting text = if nat_lt max_bytes (length text) then None else Some text

-- a text with what stands in a range replaced; refused where the range ends before it begins
unfoldable pub with_range : PositionEncoding → List ℕ → Range → List ℕ → Option (List ℕ)
with_range encoding text range ins =
    if is_beyond range.start range.end then None else
    fitting (replace text (offset_of encoding text range.start) (offset_of encoding text range.end - offset_of encoding text range.start) ins)

-- a text behind a change: of a range of it, or of all of it
abbrev pub changed_by : PositionEncoding → List ℕ → Option Range → List ℕ → Option (List ℕ)
changed_by encoding text None ins = fitting ins
changed_by encoding text (Some range) ins = with_range encoding text range ins

-- a text behind a change as it is told
abbrev pub change_behind : PositionEncoding → ContentChange → List ℕ → Option (List ℕ)
change_behind encoding change text = changed_by encoding text change.range (string_bytes change.text)

-- a text behind the changes of a message, each made in the text that those before it leave; refused where one of them is
unfoldable pub changed : PositionEncoding → List ContentChange → List ℕ → Option (List ℕ)
changed encoding [] text = Some text
changed encoding (change ∷ changes) text =
    option_and_then (changed encoding changes) (change_behind encoding change text)

-- a text that an editor has open
pub record DocumentView : Type 0 where
  pub address : List ℕ
  pub version : ℤ
  pub text : List ℕ

abbrev pub has_address : List ℕ → DocumentView → Bool
has_address address document = bytes_eq address document.address

-- what is open under an address
abbrev pub document_of : List DocumentView → List ℕ → Option DocumentView
document_of documents address = find (has_address address) documents

-- the text that is open under it
abbrev pub text_of : List DocumentView → List ℕ → Option (List ℕ)
text_of documents address = option_map (λ d. d.text) (document_of documents address)

-- another in the place of the one with its address, behind all others where none has it
unfoldable pub with_document : List DocumentView → DocumentView → List DocumentView
with_document [] document = document ∷ []
with_document (first ∷ rest) document = if has_address document.address first then document ∷ rest else first ∷ with_document rest document

-- without the one with an address
abbrev pub without : List DocumentView → List ℕ → List DocumentView
without documents address = filter (λ d. not (has_address address d)) documents

-- with another text of a document that is open, with its version
abbrev pub with_text : List DocumentView → List ℕ → ℤ → Option (List ℕ) → List DocumentView
with_text documents address version None = documents
with_text documents address version (Some text) = with_document documents (record { address = address; version = version; text = text })

-- what an editor tells
pub data Event : Type 0 where
  Opened : List ℕ → ℤ → List ℕ → Event
  Changed : List ℕ → ℤ → List ContentChange → Event
  Closed : List ℕ → Event

-- what is open behind it; what is refused changes nothing
abbrev pub behind_event : PositionEncoding → List DocumentView → Event → List DocumentView
behind_event encoding documents (Opened address version text) = with_text documents address version (fitting text)
behind_event encoding documents (Changed address version changes) =
    with_text documents address version (option_and_then (changed encoding changes) (text_of documents address))
behind_event encoding documents (Closed address) = without documents address

-- texts that are open, and the units in which their characters are counted
pub record DocumentsView : Type 0 where
  pub encoding : PositionEncoding
  pub documents : List DocumentView

-- the same of what a program keeps
abbrev pub view_behind : DocumentsView → Event → DocumentsView
view_behind view event = record { encoding = view.encoding; documents = behind_event view.encoding view.documents event }

-- the text behind the changes of what is open under an address
abbrev pub text_behind_changes : DocumentsView → List ContentChange → List ℕ → Option (List ℕ)
text_behind_changes view changes address = option_and_then (changed view.encoding changes) (text_of view.documents address)

-- behind all of them, in their order
unfoldable pub behind_events : PositionEncoding → List DocumentView → List Event → List DocumentView
behind_events encoding documents [] = documents
behind_events encoding documents (event ∷ events) = behind_events encoding (behind_event encoding documents event) events

-- a text, or the one before where it is refused
abbrev pub or_before : Option (List ℕ) → Option (List ℕ) → Option (List ℕ)
or_before (Some text) before = Some text
or_before None before = before

-- what an event leaves of the text of one address: what the protocol says of it alone
abbrev pub text_behind : PositionEncoding → List ℕ → Option (List ℕ) → Event → Option (List ℕ)
text_behind encoding address before (Opened opened version text) =
    if bytes_eq address opened then or_before (fitting text) before else before
text_behind encoding address before (Changed other version changes) =
    if bytes_eq address other then or_before (option_and_then (changed encoding changes) before) before else before
text_behind encoding address before (Closed closed) = if bytes_eq address closed then None else before

unfoldable pub text_behind_all : PositionEncoding → List ℕ → Option (List ℕ) → List Event → Option (List ℕ)
text_behind_all encoding address before [] = before
text_behind_all encoding address before (event ∷ events) = text_behind_all encoding address (text_behind encoding address before event) events
