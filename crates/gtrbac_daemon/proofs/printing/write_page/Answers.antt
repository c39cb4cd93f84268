use Rattle.std.proofs.Common.{flat_map, arith, sym, subst}
use Rattle.std.specs.Io.KnownBytes.{Appends}
use Rattle.gt_io.specs.Causes.{AppendsPart}
use Rattle.request_text.specs.Replies.{entry_line}
use Rattle.core_machine.proofs.Sames.{on_err}
use Rattle.gtrbac_daemon.proofs.Paging.{part_first}
use Rattle.gtrbac_daemon.proofs.printing.write_page.Goals as goal

pub returns-in_err-write_all-clause-part : goal.returns-in_err-write_all-clause-part
returns-in_err-write_all-clause-part g c =
    let o = g.K.Sink in
    let a = (o.output c.args.out.now).written in
    let b = (o.output c.write_all.new.sink).written in
    let put = c.put_entries-left in
    on_err _ (subst (AppendsPart a b) (sym put.ensures.text)
    (part_first a b put.new.into.items (flat_map (entry_line c.args.policy.now) put.result.now) (subst (AppendsPart a b) c.as_slice.ensures c.in_err-write_all.ensures.part)))

pub returns-clause-page : goal.returns-clause-page
returns-clause-page g c =
    let o = g.K.Sink in
    let put = c.put_entries-left in
    record {
      text = put.new.into.items;
      all = put.ensures.text;
      written = subst (Appends (o.output c.args.out.now).written (o.output c.write_all.new.sink).written) c.as_slice.ensures c.in_ok-write_all.ensures.all;
      fit = put.ensures.fit;
      fewer = put.ensures.fewer;
      empty = c.clear.ensures.empty;
      room = let kept = put.ensures.kept in let cleared = c.clear.ensures.room in omega (arith, kept, cleared);
    }
