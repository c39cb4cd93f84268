use Rattle.std.proofs.Common.{refl, ◌∷◌, []}
use Rattle.connection_laws.proofs.Growing.{rested_grows}
use Rattle.connection_laws.proofs.clerk.ClerkAnswerer.answer.Goals as goal

pub returns-clause-answers : goal.returns-clause-answers
returns-clause-answers g c =
    let x = c.decide.ensures.decides in
    record {
      answer = x.answer;
      readings = c.now-reading.result ∷ [];
      entries = x.entries;
      told_is = x.told_is;
      asks = record {
        keeps = (refl, refl, refl, refl);
        asks = record {
          asks = x.asks;
          mine = x.mine;
          grows = rested_grows c.args.self.now.pass.now c.decide.new.pass x.entries 2 x.grows;
          reads = c.now-reading.ensures;
          one = refl;
        };
      };
      worn_out = x.worn_out;
    }
