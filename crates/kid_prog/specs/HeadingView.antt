-- What the forms before main hold, as plain data.
use Rattle.kid_value.specs.SortView.{plain_sort}
use Rattle.kid_term.specs.TermView.{plain_term}
use Rattle.kid_prog.specs.Loading as plain
use Rattle.kid_prog.specs.declared.loader.Heading.{Heading}

abbrev pub plain_heading : Heading → plain.Heading
plain_heading h = record { format = h.format; signature = h.signature; condition = plain_term h.condition; output = (h.output, plain_sort h.sort); first = h.first }
