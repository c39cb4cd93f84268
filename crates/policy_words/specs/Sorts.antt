-- Of which sort a fluent is.
use Rattle.std.specs.Prelude.{Bool, true, false}
use Rattle.gt_base.specs.declared.events.Fluent.{Fluent}
use Rattle.gt_base.specs.declared.events.Fluent.TheVariants.{Enabled, Assigned, Granted, Limit, Edge}
use Rattle.policy_words.specs.declared.parts.Sort.{Sort}
use Rattle.policy_words.specs.declared.parts.Sort.TheVariants.{Enabling, Assigning, Granting, Arming, Linking}

abbrev pub fluent_sort : Fluent → Sort
fluent_sort (Enabled r) = Enabling
fluent_sort (Assigned u r) = Assigning
fluent_sort (Granted q r) = Granting
fluent_sort (Limit l) = Arming
fluent_sort (Edge n) = Linking

abbrev pub same_sort : Sort → Sort → Bool
same_sort Enabling Enabling = true
same_sort Assigning Assigning = true
same_sort Granting Granting = true
same_sort Arming Arming = true
same_sort Linking Linking = true
same_sort _ _ = false

abbrev pub has_sort : Sort → Fluent → Bool
has_sort s f = same_sort s (fluent_sort f)
