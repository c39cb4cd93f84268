use Rattle.std.proofs.Common.{◌∙◌, ap, arith}
use Rattle.gt_base.specs.Held.{RoleWalk}
use Rattle.request_text.proofs.Walks.{walk_put, walk_length}
use Rattle.request_text.proofs.replies.put_walk.Goals as goal

pub put_juniors-requires-clause-room : goal.put_juniors-requires-clause-room
put_juniors-requires-clause-room g c =
    omega (
      arith,
      walk_length c.args.p.now c.args.walk.now _ _ c.args.piece.now (ap (λ (w : RoleWalk). w.start) c.walk.view_is) (c.as_slice.ensures ∙ ap (λ (w : RoleWalk). w.edges) c.walk.view_is),
      c.requires.room,
      c.put_start.ensures.spare,
    )

pub returns : goal.returns
returns g c =
    record {
      items =
          walk_put c.args.p.now c.args.walk.now _ _ c.args.piece.now (ap (λ (w : RoleWalk). w.start) c.walk.view_is) (c.as_slice.ensures ∙ ap (λ (w : RoleWalk). w.edges) c.walk.view_is)
          _ _ _ c.put_start.ensures.items c.put_juniors.ensures.items;
      spare =
          omega (
            arith,
            walk_length c.args.p.now c.args.walk.now _ _ c.args.piece.now (ap (λ (w : RoleWalk). w.start) c.walk.view_is) (c.as_slice.ensures ∙ ap (λ (w : RoleWalk). w.edges) c.walk.view_is),
            c.put_start.ensures.spare,
            c.put_juniors.ensures.spare,
          );
    }
