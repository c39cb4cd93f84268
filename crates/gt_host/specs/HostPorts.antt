-- What the host's ports tell: no bytes.
use Rattle.std.specs.Prelude.{ℕ, false, List, length, None}
use Rattle.std.specs.declared.option.Option.{Option}
use Rattle.std.specs.declared.result.Result.{Result}
use Rattle.gt_io.specs.declared.source.Failed.{Failed}
use Rattle.gt_io.specs.declared.port.PortEvent.{PortEvent}
use Rattle.gt_io.specs.declared.port.Called.TheVariants.{Nothing}
use Rattle.gt_io.specs.Ports.{Port, Harbour, told_in}
use Rattle.gt_host.specs.declared.port.HostPort.{HostPort}

abbrev pub host_port : HostPort → Port
host_port p =
    record {
      left = None;
      taken = None;
      given = None;
      last = p.last;
      owed = p.owed;
      others = p.others;
      finished = p.finished;
    }

-- a link that there is none of
abbrev pub no_host_port : Port
no_host_port =
    record {
      left = None;
      taken = None;
      given = None;
      last = Nothing;
      owed = false;
      others = 0;
      finished = None;
    }

-- the link of a number from 1
abbrev pub host_port_in : List HostPort → ℕ → Port
host_port_in ps k = told_in host_port no_host_port ps k

abbrev pub host_harbour : Option (Result PortEvent Failed) → ℕ → List HostPort → ℕ → ℕ
    → Harbour
host_harbour told nexts ports faults ends =
    record {
      told = told;
      nexts = nexts;
      opened = length ports;
      port = host_port_in ports;
      faults = faults;
      ends = ends;
    }
