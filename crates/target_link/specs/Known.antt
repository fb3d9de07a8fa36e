-- What the values of an attempt's keywords are.
use Rattle.target_link.specs.declared.keyword.Values.{Values}
use Rattle.target_link.specs.Keywords.{Known}

-- the texts that the values point to
abbrev pub known : Values → Known
known values = record { arn = values.arn.now; time = values.time.now; id = values.id.now; number = values.number.now }
