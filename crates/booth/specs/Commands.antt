-- The verbs of the program, by their words.
use Rattle.std.specs.Prelude.{ℕ, cond, List, Some, None, codes, Option}
use Rattle.std.specs.Str.{bytes_eq}
use Rattle.booth.specs.declared.command.Verb.{Verb}
use Rattle.booth.specs.declared.command.Verb.TheVariants.{Check, Demo, Help}

abbrev pub verb_named : List ℕ → Option Verb
verb_named w =
    cond (bytes_eq w (codes "check")) (Some Check) (cond (bytes_eq w (codes "demo")) (Some Demo) (cond (bytes_eq w (codes "help")) (Some Help) None))
