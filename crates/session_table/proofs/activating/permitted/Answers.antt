use Rattle.gt_base.specs.Sets.{has}
use Rattle.session_table.proofs.Keeping.{few_of, few_of_role}
use Rattle.session_table.proofs.Permitting.{front_refuses, walk_refuses, permits}
use Rattle.session_table.proofs.activating.permitted.Goals as goal

pub returns-in-Err-clause-err : goal.returns-in-Err-clause-err
returns-in-Err-clause-err c =
    let (to, kept) = c.requires.kept in
    front_refuses c.args.by.now.hierarchy.now c.args.by.now.caps.now.items (has c.args.by.now.status.now.set) c.args.by.now.instant c.args.actor c.args.session c.args.role c.args.sessions.now c.args.by.now.active.now.items c.args.by.now.charges.now.charged to kept
    c.in-Err.refusal c.in-Err.ensures.err

pub allowing-requires-clause-all : goal.allowing-requires-clause-all
allowing-requires-clause-all c =
    let (to, kept) = c.requires.kept in
    few_of_role c.args.sessions.now c.args.by.now.active.now.items c.args.by.now.charges.now.charged to kept c.args.role

pub allowing-requires-clause-own : goal.allowing-requires-clause-own
allowing-requires-clause-own c =
    let (to, kept) = c.requires.kept in
    few_of c.args.sessions.now c.args.by.now.active.now.items c.args.by.now.charges.now.charged to kept c.in-Ok.found.1 c.args.role

pub returns-in-Ok-allowing-clause-ok : goal.returns-in-Ok-allowing-clause-ok
returns-in-Ok-allowing-clause-ok c =
    let (to, kept) = c.requires.kept in
    permits c.args.by.now.hierarchy.now c.args.by.now.caps.now.items (has c.args.by.now.status.now.set) c.args.by.now.instant c.args.actor c.args.session c.args.role c.args.sessions.now c.args.by.now.active.now.items c.args.by.now.charges.now.charged to kept
    c.in-Ok.found.0 c.in-Ok.found.1 c.in-Ok.ensures.ok c.in-Ok-allowing.walk c.in-Ok-allowing.ensures.ok

pub returns-in-Err-allowing-clause-err : goal.returns-in-Err-allowing-clause-err
returns-in-Err-allowing-clause-err c =
    let (to, kept) = c.requires.kept in
    walk_refuses c.args.by.now.hierarchy.now c.args.by.now.caps.now.items (has c.args.by.now.status.now.set) c.args.by.now.instant c.args.actor c.args.session c.args.role c.args.sessions.now c.args.by.now.active.now.items c.args.by.now.charges.now.charged to kept
    c.in-Ok.found.0 c.in-Ok.found.1 c.in-Ok.ensures.ok c.in-Err-allowing.fault c.in-Err-allowing.ensures.err
