-- The subcommands of `letting` and their options, as `clap` takes them.
use Rattle.std.specs.Prelude.{◌≡◌, true, false, List, [], ◌∷◌, Some, Result, Ok, Err, codes}
use Rattle.clap.specs.Lexer.{usize_max}
use Rattle.clap.specs.Simple.{new_shape}
use Rattle.clap.specs.Words.{AddsSubcommand, App, Rule, Shape, Text, new_rule, rule_of, shape_of}
use Rattle.clap.specs.declared.builder.arg.Arg.{Arg}
use Rattle.clap.specs.declared.builder.command.Command.{Command}
use Rattle.clap.specs.declared.builder.command.Command.TheViews.{out-Command}

-- the option `--name VALUE`, which may be left out
abbrev pub option : Text → Rule
option name = record (new_rule name) { long = Some name; value_names = 1 }

-- the same, which has to be given
abbrev pub required : Rule → Rule
required rule = record rule { required = true }

-- one word or more that belong to no option
abbrev pub free_words : Rule
free_words = record (new_rule (codes "word")) {
  value_names = 1;
  range = Some (record { start_inclusive = 1; end_inclusive = usize_max });
  required = true;
}

abbrev pub subcommand : Text → List Rule → Shape
subcommand name rules = record (new_shape name) { rules = rules }

abbrev pub init : Shape
init = subcommand (codes "init") (required (option (codes "file")) ∷ required (option (codes "first")) ∷ [])

abbrev pub batch : Shape
batch = subcommand (codes "batch") (option (codes "file") ∷ option (codes "first") ∷ [])

abbrev pub run : Shape
run = subcommand (codes "run")
    (required (option (codes "file")) ∷ required (option (codes "key")) ∷ required (option (codes "month")) ∷ option (codes "batches") ∷ [])

abbrev pub recover : Shape
recover = subcommand (codes "recover") (required (option (codes "file")) ∷ [])

abbrev pub migrate : Shape
migrate = subcommand (codes "migrate") (required (option (codes "file")) ∷ [])

abbrev pub report : Shape
report = subcommand (codes "report") (required (option (codes "file")) ∷ free_words ∷ [])

abbrev pub serve : Shape
serve = subcommand (codes "serve") (required (option (codes "file")) ∷ required (option (codes "port")) ∷ required (option (codes "count")) ∷ [])

-- the words are those behind the program's name, and name a subcommand, or ask for help or the version
abbrev pub top : Shape
top = record (new_shape (codes "letting")) {
  has_version = true;
  no_binary_name = true;
  disable_help_subcommand = true;
  arg_required_else_help = true;
  subcommand_required = true;
}

unfoldable pub letting : App
letting = record {
  top = record top { is_leaf = false };
  subs = init ∷ batch ∷ run ∷ recover ∷ migrate ∷ report ∷ serve ∷ [];
}

-- ---- what is told to `clap`

abbrev pub IsArgument : Rule → Arg → Type 0
IsArgument rule arg = (rule_of arg ≡ rule) × (arg.global ≡ false)

abbrev pub IsSubcommand : Shape → Command → Type 0
IsSubcommand shape command = (shape_of command ≡ shape) × ((out-Command command).has_globals ≡ false)

abbrev pub Adds : {E : Type 0} → Command → Result Command E → Command → Type 0
Adds old (Ok subcommand) new = AddsSubcommand old subcommand new
Adds old (Err e) new = ⊥
