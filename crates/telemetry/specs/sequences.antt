pub mod Telemetry
