use Rattle.std.proofs.Common.{refl}
use Rattle.fb_types.proofs.laws.worked_values.Goals as goal

pub returns : goal.returns
returns c = record {
  operators = record { junctions = λ vars. refl; comparisons = λ vars. refl; numbers = λ vars. refl };
  quotients = record {
    quotient = λ vars. refl;
    remainder = λ vars. refl;
    remainder_by_negative = λ vars. refl;
    remainder_by_zero = λ vars. refl;
    by_zero = λ vars. refl;
  };
  judged = record {
    sum = λ vars. refl;
    negation = λ vars. refl;
    magnitude = λ vars. refl;
    quotient = λ vars. refl;
    remainder = λ vars. refl;
  };
  evaluated = record { conjunction = λ vars. refl; selection = λ vars. refl; first = λ vars. refl };
  selected = record { limited = λ vars. refl; crossed = λ vars. refl; for_false = λ vars. refl; for_true = λ vars. refl };
}
