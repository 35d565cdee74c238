use Rattle.nl_attr.proofs.Lemmas.Fitted.{fitted_is_proper, fitted_len, fitted_is_ranged}
use Rattle.nl_attr.proofs.laws.fitting_is_proper.Goals as goal

pub returns : goal.returns
returns c = record { proper = fitted_is_proper; len = fitted_len; ranged = fitted_is_ranged }
