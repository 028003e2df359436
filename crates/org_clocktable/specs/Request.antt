-- What a clock table is asked for (Org manual 9.6, "The clock table"; which options there are, and how they are
-- written: profile).
use Rattle.std.specs.Prelude.{◌≡◌, ◌⊎◌, ℕ, ◌<◌, ◌^◌, Bool, if◌then◌else◌, List, Option, None, Some, chars, drop, length, take, unwrap_or}
use Rattle.std.specs.Option.{option_and_then, option_map, option_map_or}
use Rattle.std.specs.Str.{is_utf8}
use Rattle.org_base.specs.declared.fault.Fault.{Fault}
use Rattle.org_cal.specs.Blocks.{block_of}
use Rattle.org_cal.specs.Faults.{option_fault}
use Rattle.org_cal.specs.declared.steps.Step.{Step}
use Rattle.org_cal.specs.declared.steps.Step.TheVariants.{Whole}
use Rattle.org_expression.specs.Grammar.{Expr, Reads}
use Rattle.org_match.specs.Refusal.{AreReadable, IsRefusal, patterns}
use Rattle.org_clocktable.specs.Options.{options_of, word_len}
use Rattle.org_clocktable.specs.declared.options.Draft.{Draft}

-- what a table is asked for: the first and the last day, the deepest level that is shown, the file if it is one file alone,
-- the step, whether efforts are shown, and the expression that headings must meet, written or read
pub record TableRequest (E : Type 0) : Type 0 where
  pub days : ℕ × ℕ
  pub most : ℕ
  pub file : Option (List ℕ)
  pub step : Step
  pub with_effort : Bool
  pub expression : Option E

-- the word that stands at a place of the text
abbrev pub word_at : List ℕ → ℕ → List ℕ
word_at text at = take (word_len (drop at text)) (drop at text)

-- the bytes, if they are UTF-8
abbrev pub as_text : List ℕ → Option (List ℕ)
as_text bytes = if is_utf8 bytes then Some bytes else None

-- the expression from a place of the text on, if one is written; refused where it is no UTF-8, which doesn't occur in a text that
-- is
abbrev pub expression_from : List ℕ → Option ℕ → Option (Option (List ℕ))
expression_from text at = option_map_or (λ bytes. option_map Some (if is_utf8 bytes then Some bytes else None)) (option_map (λ i. drop i text) at) (Some None)

-- what options ask for, with their expression, the days of their block and their level
abbrev pub asked_in : List ℕ → Draft → Option (List ℕ) → ℕ × ℕ → ℕ → TableRequest (List ℕ)
asked_in text options expression days most = record {
  days = days;
  most = most;
  file = option_map (word_at text) options.file_at;
  step = unwrap_or options.step Whole;
  with_effort = options.effort;
  expression = expression;
}

-- what options of a text ask for on a day; none where block or level is missing, or where there is no such block
abbrev pub asked_by : List ℕ → ℕ → Draft → Option (TableRequest (List ℕ))
asked_by text today options = option_and_then (λ expression. option_and_then (λ days. option_map (asked_in text options expression days) options.level)
    (option_and_then (λ at. block_of (word_at text at) today) options.block_at)) (expression_from text options.match_at)

-- what a text asks for on a day; none where it isn't in the grammar of options
abbrev pub asked_of : List ℕ → ℕ → Option (TableRequest (List ℕ))
asked_of text today = option_and_then (asked_by text today) (options_of text)

-- the text of an expression is read as this one, if there is a text, and the grammar of `regex`'s dialect reads each of
-- its patterns
abbrev pub IsRead : Option (List ℕ) → Option Expr → Type 0
IsRead None None = Unit {0}
IsRead (Some text) (Some expr) = Reads (chars text) expr × AreReadable (patterns expr)
IsRead _ _ = ⊥

-- what is asked for, with its expression read
abbrev pub with_read : TableRequest (List ℕ) → Option Expr → TableRequest Expr
with_read asked expression = record {
  days = asked.days;
  most = asked.most;
  file = asked.file;
  step = asked.step;
  with_effort = asked.with_effort;
  expression = expression;
}

-- the table is what is asked for, with its expression read
abbrev pub IsReadFrom : TableRequest (List ℕ) → TableRequest Expr → Type 0
IsReadFrom asked table = IsRead asked.expression table.expression × (table ≡ with_read asked table.expression)

-- the text asks for this table on the day
pub record AsksFor (text : List ℕ) (today : ℕ) (table : TableRequest Expr) : Type 0 where
  pub asked : TableRequest (List ℕ)
  pub spelled : asked_of text today ≡ Some asked
  pub read : IsRead asked.expression table.expression
  pub is : table ≡ with_read asked table.expression

-- an expression is no longer than its refusal can tell
abbrev pub IfShort : Option (List ℕ) → Type 0
IfShort None = Unit {0}
IfShort (Some text) = length text < 2 ^ 32

-- the expression is refused
abbrev pub IsUnread : Option (List ℕ) → Fault → Type 0
IsUnread None fault = ⊥
IsUnread (Some text) fault = IsRefusal (chars text) fault

-- the text is refused: it isn't in the grammar of options, or else its expression is
abbrev pub IsTableRefusal : List ℕ → ℕ → Fault → Type 0
IsTableRefusal text today fault =
    ((asked_of text today ≡ None) × (fault ≡ option_fault))
    ⊎ ((asked : TableRequest (List ℕ)) × (asked_of text today ≡ Some asked) × IsUnread asked.expression fault)
