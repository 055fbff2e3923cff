-- Why a log that can't be read is not opened.
use Rattle.ct_log.specs.declared.read.LogFault.{LogFault}
use Rattle.ct_log.specs.declared.read.LogFault.TheVariants as log
use Rattle.ct_recover.specs.declared.fault.OpenFault.{OpenFault}
use Rattle.ct_recover.specs.declared.fault.OpenFault.TheVariants.{BadLog, Device, Memory}

abbrev pub fault_of : LogFault → OpenFault
fault_of (log.Bad at) = BadLog at
fault_of log.Fault = Device
fault_of log.Memory = Memory
