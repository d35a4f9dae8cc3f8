-- The call's result as the definition's answer.
use Rattle.quick.specs.Quick.{Quick}
use Rattle.quick.specs.declared.Answered.{Answered}

abbrev pub as_quick : Answered → Quick
as_quick r = record { number = r.number; yes = r.yes; evaluated = r.evaluated }
