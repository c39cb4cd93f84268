-- What is found, where a link can be opened for another reason.
use Rattle.std.proofs.Common.{ℕ, Option, Result, Ok, Err, Some, None}
use Rattle.std.specs.Prelude.{IfOk, IfSome}
use Rattle.gt_host.specs.declared.lookout.NextTask.{NextTask}
use Rattle.gt_host.specs.declared.lookout.NextTask.TheVariants.{Fresh, Link, Stop}
use Rattle.gt_host.specs.Lookouts.{FitsTask}

fits : {A B : Type 0} → (A → B) → (n : ℕ) → (f : NextTask) → FitsTask A n f → FitsTask B n f
fits to n (Fresh conn) a = to a
fits to n (Link k sign) a = a
fits to n Stop a = a

pub step_fits : {A B E : Type 0} → (A → B) → (n : ℕ) → (r : Result (Option NextTask) E) → IfOk r (λ o. IfSome o (FitsTask A n)) → IfOk r (λ o. IfSome o (FitsTask B n))
step_fits to n (Ok (Some f)) a = fits to n f a
step_fits to n (Ok None) a = a
step_fits to n (Err e) a = a
