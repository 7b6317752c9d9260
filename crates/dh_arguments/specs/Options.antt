-- The values of the options behind a subcommand. The rows are what `clap` found behind it.
use Rattle.std.specs.Prelude.{◌≡◌, Bool, true, false, not, if◌then◌else◌, List, Option, Some, None, is_some, option_and_then, option_map, Result, Ok, Err}
use Rattle.std.specs.Prelude.{ℕ, codes}
use Rattle.std.specs.Option.{option_map_or}
use Rattle.clap.specs.Words.{Row, Text, first_of}
use Rattle.dh_values.specs.Counts.{batch_count_of}
use Rattle.dh_values.specs.Numbers.{numeral_of, within}
use Rattle.dh_values.specs.Texts.{is_key}
use Rattle.dh_days.specs.Months.{month_of}
use Rattle.dh_arguments.specs.declared.options.Judged.{Judged}
use Rattle.dh_arguments.specs.declared.options.Judged.TheVariants.{First, Key, Month, Batches, Port, Count}
use Rattle.dh_arguments.specs.declared.options.Options.{Options}
use Rattle.dh_arguments.specs.declared.ports.TheConstants.{MOST_PORT}

-- the key that a text is
abbrev pub key_of : Text → Option Text
key_of text = if is_key text then Some text else None

-- the port that a text spells without a leading zero, but in 0 itself
abbrev pub port_of : Text → Option ℕ
port_of text = within 0 MOST_PORT (numeral_of text)

-- the value of an option's text
abbrev pub value : {T : Type 0} → (Text → Option T) → Text → List Row → Option T
value read name rows = option_and_then read (first_of name rows)

-- the option has no text, or one that has a value
abbrev pub is_read : {T : Type 0} → (Text → Option T) → Text → List Row → Bool
is_read read name rows = option_map_or (λ text. is_some (read text)) (first_of name rows) true

-- the first option, in this order, whose text has no value
abbrev pub first_bad : List Row → Option Text
first_bad rows =
    if not (is_read month_of (codes "first") rows) then Some (codes "first")
    else (if not (is_read key_of (codes "key") rows) then Some (codes "key")
    else (if not (is_read month_of (codes "month") rows) then Some (codes "month")
    else (if not (is_read batch_count_of (codes "batches") rows) then Some (codes "batches")
    else (if not (is_read port_of (codes "port") rows) then Some (codes "port")
    else (if not (is_read batch_count_of (codes "count") rows) then Some (codes "count") else None)))))

-- ---- what reading them gives

-- the long name
abbrev pub name_of : Judged → Text
name_of First = codes "first"
name_of Key = codes "key"
name_of Month = codes "month"
name_of Batches = codes "batches"
name_of Port = codes "port"
name_of Count = codes "count"

abbrev pub IsReadBy : {T : Type 0} → (Text → Option T) → Judged → List Row → Result (Option T) Judged → Type 0
IsReadBy read option rows (Ok it) = (is_read read (name_of option) rows ≡ true) × (it ≡ value read (name_of option) rows)
IsReadBy read option rows (Err bad) = (is_read read (name_of option) rows ≡ false) × (bad ≡ option)

pub record HasValues (rows : List Row) (options : Options) : Type 0 where
  pub file : option_map (λ text. text.now) options.file ≡ first_of (codes "file") rows
  pub first : options.first ≡ value month_of (codes "first") rows
  pub key : options.key ≡ value key_of (codes "key") rows
  pub month : options.month ≡ value month_of (codes "month") rows
  pub batches : options.batches ≡ value batch_count_of (codes "batches") rows
  pub port : options.port ≡ value port_of (codes "port") rows
  pub count : options.count ≡ value batch_count_of (codes "count") rows
