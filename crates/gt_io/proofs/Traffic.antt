-- Calls of a link one after another.
use Rattle.std.proofs.Common.{refl, ◌∙◌}
use Rattle.gt_io.specs.Links.{Traffic, ReadsNothing, WritesNothing}

pub nothing_twice : (a b c : Traffic) → ReadsNothing a b → ReadsNothing b c → ReadsNothing a c
nothing_twice a b c x y =
    record { left_kept = y.left_kept ∙ x.left_kept; taken_kept = y.taken_kept ∙ x.taken_kept; read_faults_are = y.read_faults_are ∙ x.read_faults_are; ends_are = y.ends_are ∙ x.ends_are }

pub nothing_read : (a : Traffic) → ReadsNothing a a
nothing_read a = record { left_kept = refl; taken_kept = refl; read_faults_are = refl; ends_are = refl }

pub nothing_written_twice : (a b c : Traffic) → WritesNothing a b → WritesNothing b c → WritesNothing a c
nothing_written_twice a b c x y = record { given_kept = y.given_kept ∙ x.given_kept; write_faults_are = y.write_faults_are ∙ x.write_faults_are }
