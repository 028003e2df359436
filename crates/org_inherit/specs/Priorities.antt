-- The priority of a heading as its cookie says it (Org manual 9.6, "Priorities").
use Rattle.std.specs.Prelude.{ℕ, if◌then◌else◌, List, Option, None, Some}
use Rattle.std.specs.Option.{option_map}
use Rattle.org_base.specs.Spans.{bytes_in}
use Rattle.org_base.specs.declared.span.Span.{Span}
use Rattle.org_head.specs.Cookie.{cookie_value}
use Rattle.org_head.specs.declared.head.Head.{Head}
use Rattle.org_settings.specs.Priority.{is_priority, priority_number}
use Rattle.org_settings.specs.Settings.{FileSettings}

-- the X of the cookie `[#X]` of a head, if it has one
abbrev pub cookie_of : List ℕ → Head → Option (List ℕ)
cookie_of text head = option_map (λ (span : Span). cookie_value (bytes_in text span)) head.priority

-- the number of a cookie's X, or else the file's default
abbrev pub priority_by : FileSettings → Option (List ℕ) → ℕ
priority_by settings None = settings.default_priority
priority_by settings (Some value) = if is_priority value then priority_number value else settings.default_priority
