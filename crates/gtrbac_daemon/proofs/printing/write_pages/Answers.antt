use Rattle.std.proofs.Common.{◌++◌, ◌∙◌, arith}
use Rattle.std.proofs.KnownBytes.{Appends-trans}
use Rattle.gtrbac_daemon.specs.Pages.{text_from}
use Rattle.core_machine.proofs.Sames.{on_err}
use Rattle.gtrbac_daemon.proofs.Paging.{page_more, page_part}
use Rattle.gtrbac_daemon.proofs.printing.write_pages.Goals as goal

pub loop-left-init : goal.loop-left-init
loop-left-init g c =
    let w = c.in_ok-left.ensures.page in
    record {
      text = w.text;
      all = w.all;
      written = w.written;
      fit = w.fit;
      empty = w.empty;
      room = let room = w.room in let had = c.requires.room in omega (arith, room, had);
      kept = c.in_ok-left.ensures.cause.kept;
    }

pub loop-left-preserved : goal.loop-left-preserved
loop-left-preserved g c =
    let inv = c.loop-left.invariant in
    let w = c.in_ok-left-2.ensures.page in
    let np = c.args.policy.now in
    record {
      text = inv.text ++ w.text;
      all = page_more np (text_from np c.args.page.now.items c.args.entries.now) inv.text w.text c.loop-left.page.items c.loop-left.left.now _ inv.all inv.empty w.all;
      written = Appends-trans _ _ _ inv.text w.text inv.written w.written;
      fit = w.fit;
      empty = w.empty;
      room = let room = w.room in let had = inv.room in omega (arith, room, had);
      kept = c.in_ok-left-2.ensures.cause.kept ∙ inv.kept;
    }

pub returns-in_err-left-2-clause-part : goal.returns-in_err-left-2-clause-part
returns-in_err-left-2-clause-part g c =
    let o = g.K.Sink in
    let inv = c.loop-left.invariant in
    let np = c.args.policy.now in
    on_err _ (page_part np (text_from np c.args.page.now.items c.args.entries.now) inv.text c.loop-left.page.items c.loop-left.left.now (o.output c.args.out.now).written (o.output c.loop-left.out).written (o.output c.write_page-in-loop-left.new.out).written
    inv.all inv.empty inv.written c.in_err-left-2.ensures.part)
