use Rattle.std.proofs.Common.{rules, refl}
use Rattle.std.proofs.lemmas.Result.{err_from_is_err_and}
use Rattle.base.specs.Refusals.{refusal}
use Rattle.driver.proofs.Driving.{prepared, started, refused, due_kept}
use Rattle.driver.proofs.Driver.arm.Goals as goal

pub returns-clause-made : goal.returns-clause-made
returns-clause-made g c = record {
  made = started (prepared c.halt.ensures.made c.clear_interrupt.ensures.made c.reset.ensures) (search rules) c.load_value.ensures.called (search rules) refl (search rules);
  loans = search rules;
}

pub returns-clause-kept_due : goal.returns-clause-kept_due
returns-clause-kept_due g c = due_kept (prepared c.halt.ensures.made c.clear_interrupt.ensures.made c.reset.ensures) _

pub returns-in_err-load_value-clause-made : goal.returns-in_err-load_value-clause-made
returns-in_err-load_value-clause-made g c =
    let exit = err_from_is_err_and c.from_residual.result c.from_residual.ensures.1 in
    record {
      made = rw (exit.1, exit.2) (refused (prepared c.halt.ensures.made c.clear_interrupt.ensures.made c.reset.ensures) {o = refusal c.in_err-load_value.field-0.0} (search rules) c.load_value.ensures.called (search rules) refl);
      loans = search rules;
    }

pub returns-in_err-load_value-clause-kept_due : goal.returns-in_err-load_value-clause-kept_due
returns-in_err-load_value-clause-kept_due g c = due_kept (prepared c.halt.ensures.made c.clear_interrupt.ensures.made c.reset.ensures) _
